-- Where the body of main begins: the scope with its links still says nothing of words, and code has the ends of these
-- links.
use Rattle.std.proofs.Common.{◌≡◌, ◌⊎◌, ℕ, zero, suc, ◌+◌, ◌<◌, ◌≤◌, Bool, true, false, cond, List, [], ◌∷◌, ◌++◌}
use Rattle.std.proofs.Common.{length}
use Rattle.std.proofs.Common.{Option, Some, None, inl, inr, map, refl, sym, ap, subst, ◌∙◌, arith, append_assoc, get_or}
use Rattle.std.proofs.lemmas.Bool.{and_parts, lt-ltb}
use Rattle.std.proofs.lemmas.Bool.Decides.{nat_tests}
use Rattle.std.proofs.lemmas.List.{append-nil}
use Rattle.std.specs.List.{AllByRecursion}
use Rattle.std.specs.Prelude.{◌||◌, nat_eq, nat_lt}
use Rattle.module_format.specs.declared.rows.EndKind.TheVariants as ends
use Rattle.certificate.specs.Rights.{has_end}
use Rattle.states.specs.State.{Facts}
use Rattle.occam_parser.specs.declared.tree.ValueType.{ValueType}
use Rattle.occam_parser.specs.declared.tree.ValueType.TheVariants as value_type
use Rattle.occam_parser.specs.Lines.{Formal}
use Rattle.scalar_ranges.specs.Entries.{Meaning, Channel, Entry}
use Rattle.scalar_ranges.specs.Environments.{Environment, item_at}
use Rattle.scalar_ranges.specs.MoveLaws.{meaning_at}
use Rattle.program_uses.specs.declared.uses.Direction.{Direction}
use Rattle.program_uses.specs.declared.uses.Direction.TheVariants as direction
use Rattle.program_uses.specs.Declaring.{add, add_formals, formal_meaning}
use Rattle.program_meaning.specs.Links.{Port, message_length}
use Rattle.program_meaning.specs.Meaning.{no_ports, port_for}
use Rattle.usage_checks.specs.ChannelRules.{is_inside}
use Rattle.usage_checks.specs.MainRules.{is_link_as, are_links}
use Rattle.code_pieces.specs.Laying.{pars_of}
use Rattle.code_pieces.specs.LaidModule.{Arrangement, laid_module}
use Rattle.code_pieces.specs.Pieces.{Piece}
use Rattle.code_pieces.proofs.AllOfPieces.{all_both}
use Rattle.line_pieces.specs.Homes.{Home}
use Rattle.line_pieces.specs.Declarations.{Frame, with_home}
use Rattle.code_generator.specs.Programs.{home_of_port, link_of, with_links}
use Rattle.placed_code.proofs.OneProcess.{root_has_its_links}
use Rattle.meant_processes.specs.Places.{AreLinked, IsLink, IsLinked, Program}
use Rattle.meant_programs.proofs.Globals.{link_means}
use Rattle.meant_programs.proofs.MainPlaces.{link_homes}
use Rattle.certified_lines.specs.Scopes.{AreKnown, IsHoused, Scene}
use Rattle.certified_scopes.specs.Kept.{at_homes}
use Rattle.certified_scopes.specs.Settled.{HasNoWord}
use Rattle.certified_scopes.proofs.Kept.{new_names_are_held}
use Rattle.certified_scopes.proofs.Settled.{wordless_names_are_settled}
use Rattle.certified_processes.specs.Places.{end_way}
use Rattle.certified_programs.specs.Mains.{SaysNothing}
use Rattle.certified_programs.specs.Programs.{HasLength}

-- ---- links in a scope

-- a link has no word, of which anything would be known
link_wordless : (o : Option Port) → HasNoWord (home_of_port o)
link_wordless None = tt
link_wordless (Some p) = tt

link_housed : (g : Scene) (top : ℕ) (o : Option Port) (type : ValueType)
    → IsHoused g top (home_of_port o) (Channel type)
link_housed g top None type = tt
link_housed g top (Some p) type = tt

link_known : (g : Scene) (f : Facts) (o : Option Port) (type : ValueType) → AreKnown g f (home_of_port o) (Channel type)
link_known g f None type = tt
link_known g f (Some p) type = tt

-- one more
link_says : (g : Scene) (f : Frame) (es : List Entry) (name : List ℕ) (type : ValueType) (o : Option Port)
    → SaysNothing g f es → SaysNothing g (with_home (home_of_port o) f) (add name (Channel type) es)
link_says g f es name type o says = record {
  settled = wordless_names_are_settled g f es name (Channel type) (home_of_port o) (link_wordless o)
      (λ top. link_housed g top o type) says.settled;
  holds = λ facts.
      new_names_are_held (at_homes f.homes g) es name (Channel type) (home_of_port o) facts says.settled.long
      (link_known (at_homes f.homes g) facts o type) (says.holds facts);
  wordless = all_both HasNoWord f.homes (home_of_port o ∷ []) says.wordless (link_wordless o, tt);
  outer = says.outer;
}

-- the links of main
pub links_say : (g : Scene) (outer : List Entry) (fs : List Formal) (f : Frame) (es : List Entry) → are_links fs ≡ true
    → SaysNothing g f es → SaysNothing g (with_links fs f) (add_formals outer fs es)
links_say g outer [] f es links says =
    subst (λ (hs : List Home). SaysNothing g (record f { homes = hs }) es) (sym (append-nil f.homes)) says
links_say g outer (x ∷ fs) f es links says =
    let both = and_parts (is_link_as x.kind x.size x.name) (are_links fs) links in
    let means = link_means outer x.kind x.size x.value_type x.name both.0 in
    let k = formal_meaning outer x in
    let h = home_of_port (port_for x) in
    subst (λ (hs : List Home). SaysNothing g (record f { homes = hs }) (add_formals outer (x ∷ fs) es))
    (append_assoc f.homes (h ∷ []) (link_homes fs))
    (links_say g outer fs (with_home h f) (add x.name k es) both.1
    (subst (λ (m : Meaning). SaysNothing g (with_home h f) (add x.name m es)) (sym means)
    (link_says g f es x.name x.value_type (port_for x) says)))

-- ---- lengths of messages

formals_have_lengths : (lengths : List ℕ) (fs : List Formal) (n : ℕ) (port : Port)
    → AllByRecursion (λ (f : Formal). HasLength lengths (port_for f)) fs
    → item_at n (map port_for fs) ≡ Some (Some port)
    → get_or lengths (link_of port) 0 ≡ message_length port.carries
formals_have_lengths lengths [] n port all is = absurd (cc is)
formals_have_lengths lengths (f ∷ fs) zero port all is =
    let same : port_for f ≡ Some port = cc is in subst (HasLength lengths) same all.0
formals_have_lengths lengths (f ∷ fs) (suc n) port all is = formals_have_lengths lengths fs n port all.1 is

-- what is declared before them is no link
pub ports_have_lengths : (lengths : List ℕ) (names : Environment) (fs : List Formal) (n : ℕ) (port : Port)
    → AllByRecursion (λ (f : Formal). HasLength lengths (port_for f)) fs
    → item_at n (no_ports names ++ map port_for fs) ≡ Some (Some port)
    → get_or lengths (link_of port) 0 ≡ message_length port.carries
ports_have_lengths lengths [] fs n port all is = formals_have_lengths lengths fs n port all is
ports_have_lengths lengths (b ∷ names) fs zero port all is = absurd (cc is)
ports_have_lengths lengths (b ∷ names) fs (suc n) port all is = ports_have_lengths lengths names fs n port all is

-- ---- ends

-- a port of a program that is one of the four of its direction
record IsFew (p : Program) (n : ℕ) : Type 0 where
  port : Port
  is : item_at n p.ports ≡ Some (Some port)
  few : port.link < 4

few_here : (p : Program) (n : ℕ) (name : List ℕ) (type : ValueType) → is_inside p.position n ≡ true
    → IsLink p n name type ⊎ (is_inside p.position n ≡ false) → IsFew p n
few_here p n name type inside (inl link) = record { port = link.port; is = link.is; few = link.link }
few_here p n name type inside (inr outside) = absurd (cc (sym inside ∙ outside))

few_by : (t : Bool) (p : Program) (n : ℕ) (type : ValueType) (e : Entry) (es : List Entry) → nat_eq (length es) n ≡ t
    → cond t (Some e.meaning) (meaning_at n es) ≡ Some (Channel type) → is_inside p.position n ≡ true
    → IsLinked p (length es) e.name e.meaning → (meaning_at n es ≡ Some (Channel type) → IsFew p n) → IsFew p n
few_by true p n type e es same is inside here further =
    let at : length es ≡ n = grind (arith, nat_tests, same) in
    let means : e.meaning ≡ Channel type = cc is in
    few_here p n e.name type inside
    (subst (λ (k : ℕ). IsLinked p k e.name (Channel type)) at (subst (IsLinked p (length es) e.name) means here))
few_by false p n type e es same is inside here further = further is

few_at : (p : Program) (n : ℕ) (type : ValueType) (es : List Entry) → meaning_at n es ≡ Some (Channel type)
    → is_inside p.position n ≡ true → AreLinked p es → IsFew p n
few_at p n type [] is inside linked = absurd (cc is)
few_at p n type (e ∷ es) is inside linked =
    few_by (nat_eq (length es) n) p n type e es refl is inside linked.0
    (λ there. few_at p n type es there inside linked.1)

-- so is each port whose name is among those that are declared
pub port_few : (p : Program) (n : ℕ) (port : Port) (es : List Entry) → item_at n p.ports ≡ Some (Some port)
    → meaning_at n es ≡ Some (Channel port.carries) → n < p.position.declared → AreLinked p es → port.link < 4
port_few p n port es at means less linked =
    let inside : is_inside p.position n ≡ true =
    ap (λ (b : Bool). b || nat_lt n p.position.parallel) (lt-ltb n p.position.declared less) in
    let found = few_at p n port.carries es means inside linked in
    let same : found.port ≡ port = cc (sym found.is ∙ at) in
    subst (λ (q : Port). q.link < 4) same found.few

some_bytes : (type : ValueType) → 1 ≤ message_length type
some_bytes value_type.Int = omega arith
some_bytes value_type.Byte = omega arith

-- the root has the end of a link that has messages
pub end_there : (ps : List Piece) (labels : ℕ) (links : List ℕ) (a : Arrangement) → pars_of ps ≡ [] → (port : Port)
    → port.link < 4 → get_or links (link_of port) 0 ≡ message_length port.carries
    → has_end (laid_module ps labels links a) 0
    (record { kind = ends.Link (link_of port); direction = end_way port.way }) ≡ true
end_there ps labels links a none port few long = by_way port.way refl
  where
    there : (way : Direction) → port.way ≡ way → 1 ≤ get_or links (link_of (record port { way = way })) 0
    there way is =
        subst (λ (w : Direction). 1 ≤ get_or links (link_of (record port { way = w })) 0) is
        (subst (λ (n : ℕ). 1 ≤ n) (sym long) (some_bytes port.carries))

    by_way : (way : Direction) → port.way ≡ way
        → has_end (laid_module ps labels links a) 0
        (record { kind = ends.Link (link_of port); direction = end_way port.way }) ≡ true
    by_way direction.Output is =
        ap (λ (w : Direction). has_end (laid_module ps labels links a) 0
        (record { kind = ends.Link (link_of (record port { way = w })); direction = end_way w })) is
        ∙ root_has_its_links.out ps labels links a none port.link few (there direction.Output is)
    by_way direction.Input is =
        ap (λ (w : Direction). has_end (laid_module ps labels links a) 0
        (record { kind = ends.Link (link_of (record port { way = w })); direction = end_way w })) is
        ∙ root_has_its_links.into ps labels links a none (port.link + 4) (omega arith) (there direction.Input is)
