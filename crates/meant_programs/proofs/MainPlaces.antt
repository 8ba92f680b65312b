-- Where the body of main begins: links have their homes behind the names before them, and memory carries these.
use Rattle.std.proofs.Common.{◌≡◌, ℕ, zero, suc, ◌+◌, ◌-◌, ◌<◌, ◌≤◌, Bool, true, false, cond, List, [], ◌∷◌, ◌++◌, length, map, Option}
use Rattle.std.proofs.Common.{Some, None, inl, refl, sym, subst, ap, arith, ◌∙◌, append_assoc}
use Rattle.std.proofs.lemmas.Bool.{le-leb, lt-ltb, leb-true}
use Rattle.std.specs.Prelude.{nat_eq, nat_le, ◌&&◌, option_map}
use Rattle.word_arithmetic.specs.Range.{full}
use Rattle.occam_parser.specs.declared.tree.ValueType.{ValueType}
use Rattle.occam_parser.specs.declared.tree.FormalKind.{FormalKind}
use Rattle.occam_parser.specs.declared.tree.FormalKind.TheVariants as formal_kind
use Rattle.occam_parser.specs.Expressions.{Expression}
use Rattle.scalar_ranges.specs.Narrowing.{with_range}
use Rattle.program_uses.specs.declared.uses.Direction.{Direction}
use Rattle.program_uses.specs.declared.uses.Direction.TheVariants as direction
use Rattle.program_uses.specs.LinkNames.{is_link, is_in, is_out, link_way}
use Rattle.program_meaning.specs.Meaning.{link_number}
use Rattle.usage_checks.specs.ChannelRules.{is_formal_of_main}
use Rattle.usage_checks.specs.MainRules.{is_link_name}
use Rattle.usage_checks.specs.Reaching.{in_procedure}
use Rattle.line_pieces.specs.Homes.{Nowhere, Word, Block, Table, Passed}
use Rattle.meant_processes.specs.Places.{IsHoused, AreHoused, IsLink, IsLinked, AreLinked}
use Rattle.meant_programs.specs.Mains.{IsFixed}
use Rattle.std.proofs.lemmas.Bool.{and_parts}
use Rattle.std.proofs.lemmas.List.{append-nil, length-append, length-map}
use Rattle.std.specs.Prelude.{slice_get}
use Rattle.std.specs.List.{AllByRecursion}
use Rattle.machine_state.specs.Memory.{Memory}
use Rattle.occam_parser.specs.Lines.{Formal}
use Rattle.occam_parser.specs.Blocks.{ProgramItem}
use Rattle.scalar_ranges.specs.declared.scope.ScalarKind.TheVariants as scalar
use Rattle.scalar_ranges.specs.declared.scope.ArrayKind.TheVariants as array
use Rattle.scalar_ranges.specs.Entries.{Meaning, Constant, Scalar, Array, Channel, Channels, Procedure, Entry}
use Rattle.scalar_ranges.specs.Environments.{Nothing, Environment, item_at}
use Rattle.scalar_ranges.specs.MoveLaws.{shape}
use Rattle.scalar_ranges.specs.Moves.{begun_with}
use Rattle.scalar_ranges.proofs.MoveLaws.{as_long, shape_long}
use Rattle.program_uses.specs.Declaring.{add, add_formals, formal_meaning}
use Rattle.program_meaning.specs.GoingWell.{IsTrueIn}
use Rattle.program_meaning.specs.Links.{Port}
use Rattle.program_meaning.specs.Meaning.{bind_formals, no_ports, port_for}
use Rattle.program_meaning.specs.Storing.{bind}
use Rattle.usage_checks.specs.ItemRules.{around_in}
use Rattle.usage_checks.specs.MainRules.{is_link_as, are_links}
use Rattle.usage_checks.proofs.ActionsGoWell as usage
use Rattle.code_pieces.specs.Pieces.{Code, Piece}
use Rattle.line_pieces.specs.Homes.{Home, Link}
use Rattle.code_generator.specs.Calls.{where_called}
use Rattle.code_generator.specs.Processes.{Site}
use Rattle.code_generator.specs.Programs.{home_of_port, link_of, in_main}
use Rattle.placed_code.specs.LaidCode.{LaidCode}
use Rattle.meant_lines.specs.Carrying.{Ground, IsKept, start_of, end_of, Carries}
use Rattle.meant_lines.proofs.Carrying.{ends_inside}
use Rattle.meant_lines.proofs.Declaring.{new_names_are_carried}
use Rattle.meant_lines.proofs.Words.{all_alike}
use Rattle.meant_processes.specs.Places.{IsOwn, IsPlaced, Program}
use Rattle.meant_programs.specs.Mains.{FoundMain, before_main, grounded}
use Rattle.meant_programs.proofs.Globals.{Linked, formals_linked, formals_true, link_means, no_port, no_ports_long}

-- ---- own names

-- where processes are placed a name is its program's own as it is where programs go well
own_same : (m : Meaning) → usage.IsOwn m ≡ IsOwn m
own_same (Scalar scalar.Variable type range) = refl
own_same (Scalar scalar.Value type range) = refl
own_same (Scalar scalar.Reference type range) = refl
own_same (Scalar scalar.Index type range) = refl
own_same (Array array.Variable type size range) = refl
own_same (Array array.Table type size range) = refl
own_same (Array array.Value type size range) = refl
own_same (Constant type value) = refl
own_same (Channel type) = refl
own_same (Channels type size) = refl
own_same (Procedure number) = refl

-- so are all names of a scope
pub all_own : (es : List Entry) → AllByRecursion (λ e. usage.IsOwn e.meaning) es
    ≡ AllByRecursion (λ e. IsOwn e.meaning) es
all_own es = λ i. AllByRecursion (λ e. own_same e.meaning i) es

-- ---- homes of links

abbrev pub link_homes : List Formal → List Home
link_homes fs = map (λ x. home_of_port (port_for x)) fs

formals_housed : (fs : List Formal) (n : ℕ) (port : Port) → item_at n (map port_for fs) ≡ Some (Some port)
    → slice_get (link_homes fs) n ≡ Some (Link (link_of port))
formals_housed [] n port is = absurd (cc is)
formals_housed (f ∷ fs) zero port is =
    let same : port_for f ≡ Some port = cc is in ap (λ o. Some (home_of_port o)) same
formals_housed (f ∷ fs) (suc n) port is = formals_housed fs n port is

-- they are behind the names before them, which are no links
links_housed : (hs : List Home) (names : Environment) (fs : List Formal) (n : ℕ) (port : Port)
    → length hs ≡ length names → item_at n (no_ports names ++ map port_for fs) ≡ Some (Some port)
    → slice_get (hs ++ link_homes fs) n ≡ Some (Link (link_of port))
links_housed [] [] fs n port long is = formals_housed fs n port is
links_housed [] (b ∷ names) fs n port long is = absurd (omega (arith, long))
links_housed (h ∷ hs) [] fs n port long is = absurd (omega (arith, long))
links_housed (h ∷ hs) (b ∷ names) fs zero port long is = absurd (cc is)
links_housed (h ∷ hs) (b ∷ names) fs (suc n) port long is = links_housed hs names fs n port (omega (arith, long)) is

-- ---- memory

link_ends : (o : Option Port) (k : Meaning) → end_of (Some (home_of_port o)) k ≡ 0
link_ends None k = refl
link_ends (Some p) k = refl

link_starts : (o : Option Port) (top : ℕ) → start_of (Some (home_of_port o)) top ≡ top
link_starts None top = refl
link_starts (Some p) top = refl

-- links hold nothing in memory
formals_carried : (g : Ground) (top : ℕ) (outer : List Entry) (fs : List Formal) (es : List Entry) (env : Environment)
    (m : Memory) → are_links fs ≡ true → IsTrueIn es env → length g.homes ≡ length es → Carries g top es env m
    → Carries (record g { homes = g.homes ++ link_homes fs }) top (add_formals outer fs es) (bind_formals fs env) m
formals_carried g top outer [] es env m links holds long carries =
    subst (λ hs. Carries (record g { homes = hs }) top es env m) (sym (append-nil g.homes)) carries
formals_carried g top outer (f ∷ fs) es env m links holds long carries =
    let both = and_parts (is_link_as f.kind f.size f.name) (are_links fs) links in
    let means = link_means outer f.kind f.size f.value_type f.name both.0 in
    let k = formal_meaning outer f in
    let h = home_of_port (port_for f) in
    let ends = link_ends (port_for f) k in
    let starts = link_starts (port_for f) top in
    let more = length-append g.homes (h ∷ []) in
    subst (λ hs. Carries (record g { homes = hs }) top (add_formals outer (f ∷ fs) es) (bind_formals (f ∷ fs) env) m)
    (append_assoc g.homes (h ∷ []) (link_homes fs))
    (formals_carried (record g { homes = g.homes ++ h ∷ [] }) top outer fs (add f.name k es) (bind f.name Nothing env) m
    both.1
    (subst (λ m. IsTrueIn (add f.name m es) (bind f.name Nothing env)) (sym means)
    (record { meets = (refl, tt, holds.meets); typed = (tt, holds.typed) }))
    (omega (arith, long, more))
    (new_names_are_carried g top top es env f.name k Nothing h m m holds.meets long (omega (arith, ends))
    (omega (arith, starts)) carries.counted (ends_inside g.words (Some h) k (omega (arith, ends)))
    (all_alike top g.words m)
    (subst (λ k. IsKept g m h k Nothing) (sym means) tt) carries))

-- ---- where names are kept

-- what has no words of its own may be anywhere
fixed_housed : (h : Option Home) (m : Meaning) → IsFixed m → IsHoused h (with_range (λ r. full) m)
fixed_housed (Some (Word w)) m is = tt
fixed_housed None (Constant type value) is = tt
fixed_housed None (Array array.Table type size range) is = tt
fixed_housed None (Procedure number) is = tt
fixed_housed (Some Nowhere) (Constant type value) is = tt
fixed_housed (Some Nowhere) (Array array.Table type size range) is = tt
fixed_housed (Some Nowhere) (Procedure number) is = tt
fixed_housed (Some (Block w head)) (Constant type value) is = tt
fixed_housed (Some (Block w head)) (Array array.Table type size range) is = tt
fixed_housed (Some (Block w head)) (Procedure number) is = tt
fixed_housed (Some (Link number)) (Constant type value) is = tt
fixed_housed (Some (Link number)) (Array array.Table type size range) is = tt
fixed_housed (Some (Link number)) (Procedure n) is = tt
fixed_housed (Some (Table values)) (Constant type value) is = tt
fixed_housed (Some (Table values)) (Array array.Table type size range) is = tt
fixed_housed (Some (Table values)) (Procedure number) is = tt
fixed_housed (Some (Passed w)) (Constant type value) is = tt
fixed_housed (Some (Passed w)) (Array array.Table type size range) is = tt
fixed_housed (Some (Passed w)) (Procedure number) is = tt
fixed_housed h m is = absurd is

channel_housed : (h : Option Home) (type : ValueType) → IsHoused h (Channel type)
channel_housed None type = tt
channel_housed (Some (Word w)) type = tt
channel_housed (Some Nowhere) type = tt
channel_housed (Some (Block w head)) type = tt
channel_housed (Some (Link number)) type = tt
channel_housed (Some (Table values)) type = tt
channel_housed (Some (Passed w)) type = tt

all_housed : (hs : List Home) (es : List Entry) → AllByRecursion (λ e. IsFixed e.meaning) es
    → AreHoused hs (shape es)
all_housed hs [] all = tt
all_housed hs (e ∷ es) all =
    (fixed_housed (slice_get hs (length (shape es))) e.meaning all.0, all_housed hs es all.1)

formals_are_housed : (hs : List Home) (outer : List Entry) (fs : List Formal) (es : List Entry) → are_links fs ≡ true
    → AreHoused hs (shape es) → AreHoused hs (shape (add_formals outer fs es))
formals_are_housed hs outer [] es links housed = housed
formals_are_housed hs outer (f ∷ fs) es links housed =
    let both = and_parts (is_link_as f.kind f.size f.name) (are_links fs) links in
    let means = link_means outer f.kind f.size f.value_type f.name both.0 in
    formals_are_housed hs outer fs (add f.name (formal_meaning outer f) es) both.1 (
      subst (λ m. IsHoused (slice_get hs (length (shape es))) (with_range (λ r. full) m)) (sym means)
          (channel_housed (slice_get hs (length (shape es))) f.value_type),
      housed,
    )

-- ---- which channels are links

fixed_linked : (p : Program) (n : ℕ) (name : List ℕ) (m : Meaning) → IsFixed m
    → IsLinked p n name (with_range (λ r. full) m)
fixed_linked p n name (Constant type value) is = tt
fixed_linked p n name (Array array.Table type size range) is = tt
fixed_linked p n name (Procedure number) is = tt
fixed_linked p n name m is = absurd is

all_linked : (p : Program) (es : List Entry) → AllByRecursion (λ e. IsFixed e.meaning) es → AreLinked p (shape es)
all_linked p [] all = tt
all_linked p (e ∷ es) all = (fixed_linked p (length (shape es)) e.name e.meaning all.0, all_linked p es all.1)

-- the last character of a link's name is one of four digits
digit_low : (digit : ℕ) → is_link digit ≡ true → digit - 48 < 4
digit_low digit is =
    let both = and_parts (nat_le 48 digit) (nat_le digit 51) is in
    let high = leb-true digit 51 both.1 in
    omega (arith, high)

by_in : (b : Bool) (digit : ℕ) (way : Direction) → (b ≡ true → is_link digit ≡ true)
    → cond b (Some direction.Input) None ≡ Some way → digit - 48 < 4
by_in true digit way low is = digit_low digit (low refl)
by_in false digit way low is = absurd (cc is)

by_out : (b : Bool) (digit : ℕ) (way : Direction) → (b ≡ true → is_link digit ≡ true)
    → cond b (Some direction.Output) None ≡ Some way → digit - 48 < 4
by_out true digit way low is = digit_low digit (low refl)
by_out false digit way low is = absurd (cc is)

number_low : (name : List ℕ) (way : Direction) → link_way name ≡ Some way → link_number name < 4
number_low (a ∷ b ∷ digit ∷ []) way is =
    by_in (is_in a b digit) digit way
    (λ all. (and_parts (nat_eq b 110) (is_link digit)
    (and_parts (nat_eq a 105) (nat_eq b 110 && is_link digit) all).1).1) is
number_low (a ∷ b ∷ c ∷ digit ∷ []) way is =
    by_out (is_out a b c digit) digit way
    (λ all. (and_parts (nat_eq c 116) (is_link digit)
    (and_parts (nat_eq b 117) (nat_eq c 116 && is_link digit)
    (and_parts (nat_eq a 111) (nat_eq b 117 && (nat_eq c 116 && is_link digit)) all).1).1).1) is
number_low name way is = absurd (cc is)

-- what is a link by its name has a way
way_there : (kind : FormalKind) (size : Option Expression) (name : List ℕ) → is_link_as kind size name ≡ true
    → (way : Direction) × (link_way name ≡ Some way)
way_there formal_kind.Channel None name is = by_way (link_way name) is refl
  where
    by_way : (o : Option Direction) → is_link_name o ≡ true → link_way name ≡ o
        → (way : Direction) × (link_way name ≡ Some way)
    by_way None linked same = absurd (cc linked)
    by_way (Some way) linked same = (way, same)
way_there formal_kind.Channel (Some e) name is = absurd (cc is)
way_there formal_kind.Value size name is = absurd (cc is)
way_there formal_kind.Variable size name is = absurd (cc is)

-- the formals of main are its links, each at its number
formals_are_linked : (p : Program) (outer : List Entry) (fs : List Formal) (es : List Entry)
    → are_links fs ≡ true → p.position.is_main ≡ true → p.position.formals ≤ length es
    → length es + length fs ≤ p.position.declared
    → ((n : ℕ) (f : Formal) → item_at n fs ≡ Some f → item_at (length es + n) p.ports ≡ Some (port_for f))
    → AreLinked p (shape es) → AreLinked p (shape (add_formals outer fs es))
formals_are_linked p outer [] es links main after inside ports linked = linked
formals_are_linked p outer (f ∷ fs) es links main after inside ports linked =
    let both = and_parts (is_link_as f.kind f.size f.name) (are_links fs) links in
    let means = link_means outer f.kind f.size f.value_type f.name both.0 in
    let way = way_there f.kind f.size f.name both.0 in
    let port : Port = record { way = way.0; link = link_number f.name; carries = f.value_type } in
    let is_port : port_for f ≡ Some port =
    ap (option_map (λ w. record { way = w; link = link_number f.name; carries = f.value_type })) way.1 in
    let shaped = shape_long es in
    let here : IsLink p (length (shape es)) f.name f.value_type = record {
      port = port;
      is = subst (λ n. item_at n p.ports ≡ Some (Some port)) (let zero_more : length es + 0 ≡ length (shape es) = omega (arith, shaped) in zero_more)
          (ports 0 f refl ∙ ap Some is_port);
      carries = refl;
      way = way.1;
      link = number_low f.name way.0 way.1;
      formal = formal_is p (length (shape es)) main (omega (arith, after, shaped)) (omega (arith, inside, shaped));
    } in
    formals_are_linked p outer fs (add f.name (formal_meaning outer f) es) both.1 main (omega (arith, after))
    (omega (arith, inside))
    (λ n g at. subst (λ k. item_at k p.ports ≡ Some (port_for g))
    (let same : length es + suc n ≡ suc (length es) + n = omega arith in same) (ports (suc n) g at))
    (subst (λ m. IsLinked p (length (shape es)) f.name (with_range (λ r. full) m)) (sym means) (inl here), linked)
  where
    formal_is : (p : Program) (n : ℕ) → p.position.is_main ≡ true → p.position.formals ≤ n → n < p.position.declared
        → is_formal_of_main p.position n ≡ true
    formal_is p n main low high = rw (main, le-leb p.position.formals n low, lt-ltb n p.position.declared high) refl

-- an item behind others
item_behind : {A : Type 0} (xs ys : List A) (n : ℕ) → item_at (length xs + n) (xs ++ ys) ≡ item_at n ys
item_behind [] ys n = ap (λ k. item_at k ys) (omega arith)
item_behind (x ∷ xs) ys n =
    ap (λ k. item_at k (x ∷ xs ++ ys)) (let same : length (x ∷ xs) + n ≡ suc (length xs + n) = omega arith in same)
    ∙ item_behind xs ys n

item_mapped : (fs : List Formal) (n : ℕ) (f : Formal) → item_at n fs ≡ Some f
    → item_at n (map port_for fs) ≡ Some (port_for f)
item_mapped [] n f is = absurd (cc is)
item_mapped (g ∷ fs) zero f is = let same : g ≡ f = cc is in ap (λ x. Some (port_for x)) same
item_mapped (g ∷ fs) (suc n) f is = item_mapped fs n f is

-- ---- the place of main

module _ (items : List ProgramItem) (c : LaidCode) (words : ℕ) (whole : List Piece) (m : Memory) (code : Code)
    (found : FoundMain items c.footing words whole m code) where
  abbrev formals : List Formal
  formals = found.main.procedure.head.formals

  -- the program whose main is found
  abbrev pub main_program : Program
  main_program = record {
    items = items;
    around = around_in found.main.outside;
    position = (in_procedure found.main.outside found.main.procedure).position;
    calls = (where_called found.main.callees (around_in found.main.outside) (length found.main.callees)).calls;
    code = c;
    words = words;
    pieces = whole;
    ports = no_ports found.main.names ++ map port_for formals;
  }

  abbrev pub main_site : Site
  main_site = in_main found.main.procedure (before_main found.main.outside found.main.frame)

  abbrev pub main_names : Environment
  main_names = bind_formals formals found.main.names

  linked : Linked (no_ports found.main.names ++ map port_for formals) (shape main_site.known.entries)
  linked =
      let es = found.main.outside.known.entries in
      formals_linked es formals es (no_ports found.main.names) found.main.links (record {
        long = no_ports_long found.main.names ∙ as_long found.main.names es found.holds.meets ∙ sym (shape_long es);
        own = subst (λ (T : Type 0). T) (sym (all_own (shape es))) found.own;
        ports = λ n q at. absurd (no_port n found.main.names q at);
      })

  pub main_placed : IsPlaced main_program main_site main_names
  main_placed =
      let es = found.main.outside.known.entries in
      let begun = ap begun_with found.blocks in
      let named = as_long found.main.names es found.holds.meets in
      let homes = found.long in
      let ports = linked.long in
      let shaped = shape_long main_site.known.entries in
      let none = no_ports_long found.main.names in
      let some = length-append (no_ports found.main.names) (map port_for formals) in
      let all = length-append found.main.frame.homes (link_homes formals) in
      let first = length-map formals port_for in
      let second = length-map formals (λ x. home_of_port (port_for x)) in
      record {
        sited = record {
          counted = found.counted;
          own = subst (λ (T : Type 0). T) (all_own (shape main_site.known.entries)) linked.own;
          channels = linked.ports;
          links = λ n port at.
              links_housed found.main.frame.homes found.main.names formals n port (omega (arith, named, homes)) at;
          housed = formals_are_housed main_site.frame.homes es formals es found.main.links
              (all_housed main_site.frame.homes es found.fixed);
          linked = formals_are_linked main_program es formals es found.main.links found.main.named (omega arith)
              (omega (arith, named, homes, ports, shaped, none, some, first))
              (λ n f at. subst (λ k. item_at (k + n) main_program.ports ≡ Some (port_for f))
              (let same : length (no_ports found.main.names) ≡ length es = omega (arith, none, named) in same)
              (item_behind (no_ports found.main.names) (map port_for formals) n ∙ item_mapped formals n f at))
              (all_linked main_program es found.fixed);
          declared = omega arith;
          alone = omega arith;
          low = omega (arith, begun);
        };
        long = omega (arith, named, homes, ports, shaped, none, some, all, first, second);
        holds = formals_true es formals es found.main.names found.main.links found.holds;
      }

  pub main_carried : Carries (grounded c.footing words whole main_site.frame.homes) main_site.frame.top
      main_site.known.entries main_names m
  main_carried =
      let es = found.main.outside.known.entries in
      formals_carried (grounded c.footing words whole found.main.frame.homes) found.main.frame.top es formals es
      found.main.names m found.main.links found.holds found.long found.carries
