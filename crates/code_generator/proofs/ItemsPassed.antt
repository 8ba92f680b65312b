-- What is known and written after the items before main, and that main's code is then the program's.
use Rattle.std.proofs.Common.{◌≡◌, ℕ, ◌+◌, ◌<◌, ◌≤◌, true, List, [], ◌∷◌, ◌++◌, length, map}
use Rattle.std.proofs.Common.{take, get_or, Option, Some, None, IfSome, inl, inr, refl, sym, ap, subst}
use Rattle.std.proofs.Common.{◌∙◌, arith}
use Rattle.std.proofs.Math.Seq.{take-append_seam}
use Rattle.std.proofs.lemmas.List.{length-append, length-map, map-append, take_all}
use Rattle.std.specs.Borrow.{Bor}
use Rattle.std.specs.Global.{Vec}
use Rattle.word_arithmetic.specs.Range.{Ends}
use Rattle.occam_parser.specs.declared.parsed.Program.{Program}
use Rattle.occam_parser.specs.declared.tree.Item.{Item}
use Rattle.occam_parser.specs.declared.tree.Item.TheVariants.{Proc}
use Rattle.occam_parser.specs.declared.tree.Formal as code_formal
use Rattle.occam_parser.specs.declared.tree.Proc as code_proc
use Rattle.occam_parser.specs.LineViews.{formal_of}
use Rattle.occam_parser.specs.Blocks.{Procedure, ProgramItem, GlobalConstant, GlobalProcedure}
use Rattle.occam_parser.specs.BlockViews.{item_of, procedure_of}
use Rattle.scalar_ranges.specs.Entries as entries
use Rattle.scalar_ranges.specs.Entries.{Meaning}
use Rattle.scalar_ranges.specs.Moves.{Known, outermost}
use Rattle.program_uses.specs.InTurn.{in_turn}
use Rattle.program_uses.specs.Signatures.{Parameter, parameters_of, signatures_of}
use Rattle.code_generator.specs.declared.calling.Surroundings as calling
use Rattle.code_generator.specs.declared.calling.Callee as code_callee
use Rattle.code_generator.specs.declared.program.Start.{Start}
use Rattle.code_generator.specs.Calls.{Callee, where_called}
use Rattle.code_generator.specs.CallViews.{callee_of, callees_of, surroundings_of}
use Rattle.code_generator.specs.Processes.{Site}
use Rattle.program_uses.specs.declared.signature.Signature.{Signature}
use Rattle.program_uses.specs.ActionViews.{around_of}
use Rattle.program_uses.proofs.NextInTurn.{seen_more, last_in_turn}
use Rattle.scalar_ranges.specs.declared.bounds.TheConstants.{OUT_OF_RANGE}
use Rattle.usage_checks.specs.BrokenInTurn.{BreaksInTurn}
use Rattle.usage_checks.specs.ItemRules as item_rules
use Rattle.usage_checks.specs.ItemRules.{Outside, after_weighing, weighed, after_walk}
use Rattle.usage_checks.specs.ItemRules.{after_item, after_items, BreaksItem, BreaksNoRule, around_in, signature_of}
use Rattle.usage_checks.specs.Sizes.{Measured, measures_of_item}
use Rattle.usage_checks.proofs.PlacesHold.{Unbroken}
use Rattle.code_pieces.specs.Pieces.{Piece, Code}
use Rattle.code_generator.specs.declared.processes.ProcessWriter.{ProcessWriter}
use Rattle.line_pieces.specs.Declarations.{Frame}
use Rattle.line_pieces.specs.declared.frame.Frame as code_frame
use Rattle.line_pieces.specs.FrameViews.{frame_seen}
use Rattle.scalar_ranges.specs.declared.scope.Scope as code_scope
use Rattle.scalar_ranges.specs.Scopes.{known_of}
use Rattle.program_uses.specs.Declaring.{add_formals}
use Rattle.code_generator.specs.Programs.{callable, with_links, in_main, last_item_code, items_code, main_code}
use Rattle.code_generator.specs.Programs.{code_of}
use Rattle.code_generator.specs.MainWritten.{behind_item, Globals, with_item, globals_of, Precedes}
use Rattle.code_generator.specs.MainWritten.{WritesMain}
use Rattle.program_meaning.specs.Sequential.{IsSequentialProgram}
use Rattle.program_work.specs.Readings.{capped}
use Rattle.program_work.specs.Processes.{is_sequential}
use Rattle.program_work.specs.Programs.{main_of, names_in}
use Rattle.program_work.proofs.LastItem.{last_is_main}
use Rattle.program_work.proofs.SequentialTested.{main_tested}
use Rattle.code_generator.specs.declared.limits.Limits.{Limits}
use Rattle.code_generator.specs.TooMuch.{IsMuchCode}
use Rattle.code_generator.specs.Written.{site_of, first_site, Appends, Exceeds}
use Rattle.code_generator.proofs.OuterNames.{AreStill, constant_still, procedure_leaves}

-- ---- outside of procedures

-- no block is around, and no name denotes a scalar
record IsOutside (k : Known) : Type 0 where
  blocks : k.blocks ≡ []
  still : AreStill k.entries

-- ---- items are weighed

pub weighing_keeps : (x : Option ℕ) (ms : List Measured) (o : Outside) → (after_weighing x ms o).known ≡ o.known
weighing_keeps None ms o = refl
weighing_keeps (Some line) ms o = refl

pub weighing_signs : (x : Option ℕ) (ms : List Measured) (o : Outside)
    → (after_weighing x ms o).signatures ≡ o.signatures
weighing_signs None ms o = refl
weighing_signs (Some line) ms o = refl

weighed_known : (item : ProgramItem) (o : Outside) → (weighed item o).known ≡ o.known
weighed_known item o = weighing_keeps o.uncounted (measures_of_item o.signatures o.known.entries item) o

pub weighed_signatures : (item : ProgramItem) (o : Outside) → (weighed item o).signatures ≡ o.signatures
weighed_signatures item o = weighing_signs o.uncounted (measures_of_item o.signatures o.known.entries item) o

-- ---- one item more

outside_after : (item : ProgramItem) (o : Outside) → IsOutside o.known → IsOutside (after_item item o).known
outside_after item o outside =
    walked item (weighed item o) (subst IsOutside (sym (weighed_known item o)) outside)
  where
    walked : (item : ProgramItem) (o : Outside) → IsOutside o.known → IsOutside (after_walk item o).known
    walked (GlobalConstant c) o outside = record {
      blocks = outside.blocks;
      still = (constant_still o.known.entries c.value_type c.value, outside.still);
    }
    walked (GlobalProcedure p) o outside =
        let same = procedure_leaves (around_in o) p o.known outside.blocks outside.still in
        record {
          blocks = ap (λ (k : Known). k.blocks) same ∙ outside.blocks;
          still = (tt, subst (λ (k : Known). AreStill k.entries) (sym same) outside.still);
        }

outside_behind : (items : List ProgramItem) (g : Globals) → IsOutside g.outside.known
    → IsOutside (in_turn with_item items g).outside.known
outside_behind [] g outside = outside
outside_behind (item ∷ items) g outside =
    outside_behind items (with_item item g) (outside_after item g.outside outside)

-- what an item makes of the place after those before it
known_behind : (item : ProgramItem) (g : Globals) (count : ℕ) → IsOutside g.outside.known
    → count ≡ length g.outside.signatures
    → behind_item item count (record { frame = g.frame; known = g.outside.known; label = 0 })
    ≡ record { frame = (with_item item g).frame; known = (with_item item g).outside.known; label = 0 }
known_behind (GlobalConstant c) g count outside counted =
    let item = GlobalConstant c in
    let o = g.outside in
    λ i. record {
      frame = (with_item item g).frame;
      known = (after_walk item (record (weighed item o) { known = sym (weighed_known item o) i })).known;
      label = 0;
    }
known_behind (GlobalProcedure p) g count outside counted =
    let item = GlobalProcedure p in
    let o = g.outside in
    let w = weighed item o in
    let m : (signatures : List (List Parameter)) → Meaning = λ signatures. entries.Procedure (length signatures) in
    let there = subst IsOutside (sym (weighed_known item o)) outside in
    let left = procedure_leaves (around_in w) p w.known there.blocks there.still ∙ weighed_known item o in
    let number : count ≡ length w.signatures = counted ∙ ap length (sym (weighed_signatures item o)) in
    λ i. record {
      frame = (with_item item g).frame;
      known = record {
        entries = record { name = p.head.name; meaning = entries.Procedure (number i) } ∷ (sym left i).entries;
        blocks = (sym left i).blocks;
      };
      label = 0;
    }

counted_behind : (item : ProgramItem) (g : Globals) (names : ℕ) (cs : List Callee)
    → length cs ≡ length g.outside.signatures
    → length (callable item names cs) ≡ length (with_item item g).outside.signatures
counted_behind (GlobalConstant c) g names cs counted =
    counted ∙ ap length (sym (weighed_signatures (GlobalConstant c) g.outside))
counted_behind (GlobalProcedure p) g names cs counted =
    let w = weighed (GlobalProcedure p) g.outside in
    let long = length-append w.signatures (signature_of (around_in w) p w.known ∷ []) in
    let more = length-append cs (record { procedure = p; names = names } ∷ []) in
    let same = ap length (weighed_signatures (GlobalProcedure p) g.outside) in
    omega (arith, counted, long, more, same)

-- ---- some items

-- with the procedures among them
pub record Passes (w : ProcessWriter) (cs : List code_callee.Callee) (items : List ProgramItem) : Type 0 where
  pub listing : w.listing ≡ []
  pub site : site_of w
      ≡ record { frame = (globals_of items).frame; known = (globals_of items).outside.known; label = 0 }
  pub callees : callees_of cs ≡ (globals_of items).callees
  pub count : length cs ≡ length (globals_of items).outside.signatures

pub passes_none : (w : ProcessWriter) (cs : List code_callee.Callee) → w.listing ≡ [] → site_of w ≡ first_site
    → cs ≡ [] → Passes w cs []
passes_none w cs none first empty =
    record { listing = none; site = first; callees = ap callees_of empty; count = ap length empty }

pub passes_more : (xs : List Item) (i : ℕ) (x : Item) (v w : ProcessWriter) (cs ds : List code_callee.Callee)
    → i < length xs → x ≡ get_or xs i x → Passes v cs (map item_of (take i xs)) → w.listing ≡ v.listing
    → site_of w ≡ behind_item (item_of x) (length cs) (site_of v)
    → callees_of ds ≡ callable (item_of x) (length (site_of v).frame.homes) (callees_of cs)
    → Passes w ds (map item_of (take (i + 1) xs))
passes_more xs i x v w cs ds h is before listing site called =
    let items = map item_of (take i xs) in
    let item = item_of x in
    let g = globals_of items in
    let outside = outside_behind items (globals_of []) (record { blocks = refl; still = tt }) in
    let next : with_item item g ≡ globals_of (items ++ item ∷ []) =
    sym (last_in_turn with_item items item (globals_of [])) in
    let names = ap (λ (z : Site). length z.frame.homes) before.site in
    let seen : length (callees_of cs) ≡ length g.outside.signatures = length-map cs callee_of ∙ before.count in
    subst (Passes w ds) (seen_more item_of xs i x x h is) (record {
      listing = listing ∙ before.listing;
      site = site ∙ ap (behind_item item (length cs)) before.site ∙ known_behind item g (length cs) outside before.count
          ∙ (λ j. record { frame = (next j).frame; known = (next j).outside.known; label = 0 });
      callees = called ∙ (λ j. callable item (names j) (before.callees j)) ∙ ap (λ (g : Globals). g.callees) next;
      count = sym (length-map ds callee_of) ∙ ap length called
          ∙ counted_behind item g (length (site_of v).frame.homes) (callees_of cs) seen
          ∙ ap (λ (g : Globals). length g.outside.signatures) next;
    })

pub passes_all : (xs : List Item) (i : ℕ) (w : ProcessWriter) (cs : Vec code_callee.Callee) → length xs ≤ i
    → Passes w cs.items (map item_of (take i xs)) → Precedes (record { writer = w; callees = cs }) (map item_of xs)
passes_all xs i w cs h x =
    subst (λ ys. Precedes (record { writer = w; callees = cs }) (map item_of ys)) (take_all i xs h)
    (record { listing = x.listing; site = x.site; callees = x.callees })

-- ---- main

-- the code of items, where these are known
abbrev code_behind : List ProgramItem → List Callee → Outside → Frame → Option Code
code_behind [] cs o f = None
code_behind (item ∷ items) cs o f = items_code item items cs o f

code_of_last : (items : List ProgramItem) (last : ProgramItem) (g : Globals)
    → code_behind (items ++ last ∷ []) g.callees g.outside g.frame
    ≡ last_item_code last (in_turn with_item items g).callees (weighed last (in_turn with_item items g).outside)
    (in_turn with_item items g).frame
code_of_last [] last g = refl
code_of_last (item ∷ []) last g = refl
code_of_last (item ∷ next ∷ items) last g = code_of_last (next ∷ items) last (with_item item g)

whole_code : (items : List ProgramItem)
    → code_of items ≡ code_behind items [] (globals_of []).outside (globals_of []).frame
whole_code [] = refl
whole_code (item ∷ items) = refl

-- ---- counting does not end

never_ends : (line : Option ℕ) → Unbroken (item_rules.Ends None line) → line ≡ None
never_ends None unbroken = refl
never_ends (Some line) unbroken =
    absurd (unbroken (record { number = OUT_OF_RANGE; line = line }) (refl, refl))

pub still_counted : (x : Option ℕ) (ms : List Measured) (o : Outside) → x ≡ None
    → Unbroken (item_rules.Ends x (after_weighing x ms o).uncounted) → (after_weighing x ms o).uncounted ≡ None
still_counted (Some line) ms o is unbroken = absurd (cc is)
still_counted None ms o is unbroken = never_ends _ unbroken

walk_counts : (item : ProgramItem) (o : Outside) → (after_walk item o).uncounted ≡ o.uncounted
walk_counts (GlobalConstant c) o = refl
walk_counts (GlobalProcedure p) o = refl

counted_last : (items : List ProgramItem) (last : ProgramItem) (o : Outside) → o.uncounted ≡ None
    → Unbroken (BreaksInTurn after_item BreaksItem (items ++ last ∷ []) o)
    → (weighed last (in_turn after_item items o)).uncounted ≡ None
counted_last [] last o is unbroken =
    still_counted o.uncounted (measures_of_item o.signatures o.known.entries last) o is
    (λ f broken. unbroken f (inl (inl broken)))
counted_last (item ∷ items) last o is unbroken =
    let once = still_counted o.uncounted (measures_of_item o.signatures o.known.entries item) o is
    (λ f broken. unbroken f (inl (inl broken))) in
    counted_last items last (after_item item o) (walk_counts item (weighed item o) ∙ once)
    (λ f broken. unbroken f (inr broken))

outside_of : (items : List ProgramItem) (g : Globals)
    → (in_turn with_item items g).outside ≡ in_turn after_item items g.outside
outside_of [] g = refl
outside_of (item ∷ items) g = outside_of items (with_item item g)

-- ---- what is known of procedures

pub all_but_last : {A : Type 0} (xs ys : List A) (x y : A) → xs ++ x ∷ [] ≡ ys ++ y ∷ [] → xs ≡ ys
all_but_last xs ys x y same =
    let long = ap length same in
    let first = length-append xs (x ∷ []) in
    let second = length-append ys (y ∷ []) in
    let n : length xs ≡ length ys = omega (arith, long, first, second) in
    sym (take-append_seam xs (x ∷ [])) ∙ (λ i. take (n i) (same i)) ∙ take-append_seam ys (y ∷ [])

-- ---- the whole

appended : (code : Option Code) (pieces : List Piece) (labels : ℕ) → Appends [] pieces labels code
    → IfSome code (λ c. record { pieces = pieces; labels = labels } ≡ c)
appended None pieces labels x = tt
appended (Some c) pieces labels x = λ i. record { pieces = x.0 i; labels = x.1 i }

-- the procedures before main are all but the last one
signed_before : (before : List ProgramItem) (p : Procedure) (all rest : List Signature) (x : Signature)
    → signatures_of all ≡ (after_items (before ++ GlobalProcedure p ∷ [])).signatures → all ≡ rest ++ x ∷ []
    → signatures_of rest ≡ (globals_of before).outside.signatures
signed_before before p all rest x signed is =
    let item = GlobalProcedure p in
    let o = in_turn after_item before item_rules.outermost in
    let w = weighed item o in
    let split : signatures_of rest ++ parameters_of x ∷ [] ≡ w.signatures ++ signature_of (around_in w) p w.known ∷ [] =
    sym (map-append parameters_of rest (x ∷ [])) ∙ ap signatures_of (sym is) ∙ signed
    ∙ ap (λ (o : Outside). o.signatures) (last_in_turn after_item before item item_rules.outermost) in
    all_but_last (signatures_of rest) w.signatures (parameters_of x) (signature_of (around_in w) p w.known) split
    ∙ weighed_signatures item o
    ∙ ap (λ (o : Outside). o.signatures) (sym (outside_of before (globals_of [])))

-- a program whose last item is a procedure has a signature
pub some_signed : (before : List ProgramItem) (p : Procedure) (all : List Signature)
    → signatures_of all ≡ (after_items (before ++ GlobalProcedure p ∷ [])).signatures → all ≡ [] → ⊥
some_signed before p all signed none =
    let item = GlobalProcedure p in
    let w = weighed item (in_turn after_item before item_rules.outermost) in
    let more = signature_of (around_in w) p w.known ∷ [] in
    let split : [] ≡ w.signatures ++ more =
    sym (ap signatures_of none) ∙ signed
    ∙ ap (λ (o : Outside). o.signatures) (last_in_turn after_item before item item_rules.outermost) in
    absurd (omega (arith, ap length split, length-append w.signatures more))

-- The code of main after the items before it is that of the program.
main_code_is : (before : List ProgramItem) (p : Procedure) (s : Start) (around : calling.Surroundings)
    → BreaksNoRule (before ++ GlobalProcedure p ∷ []) → Precedes s before
    → (around_of around.around).signatures ≡ (globals_of before).outside.signatures → around.around.uncounted ≡ None
    → around.callees.now ≡ s.callees.items → around.count ≡ length s.callees.items
    → code_of (before ++ GlobalProcedure p ∷ []) ≡ main_code (surroundings_of around) p (site_of s.writer)
main_code_is before p s around unbroken precedes signed uncounted those all =
    let item = GlobalProcedure p in
    let g = globals_of before in
    let m = weighed item g.outside in
    let counted : m.uncounted ≡ None = ap (λ o. (weighed item o).uncounted) (outside_of before (globals_of []))
    ∙ counted_last before item item_rules.outermost refl (λ f broken. unbroken f (inl broken)) in
    let known = weighed_known item g.outside in
    let signatures = weighed_signatures item g.outside ∙ sym signed in
    let none = counted ∙ sym uncounted in
    let site = (λ i. record { frame = g.frame; known = known i; label = 0 }) ∙ sym precedes.site in
    let callees : g.callees ≡ callees_of around.callees.now = sym precedes.callees ∙ ap callees_of (sym those) in
    let count : length g.callees ≡ around.count =
    ap length (sym precedes.callees) ∙ length-map s.callees.items callee_of ∙ sym all in
    whole_code (before ++ item ∷ []) ∙ code_of_last before item (globals_of [])
    ∙ (λ i. main_code (where_called (callees i) (record { signatures = signatures i; uncounted = none i }) (count i)) p
    (site i))

-- where the body of main begins, whose links and parameters came
pub main_begins : (main : code_proc.Proc) (s : ProcessWriter) (frame : code_frame.Frame) (scope : code_scope.Scope)
    (links names : List code_formal.Formal)
    → frame_seen frame ≡ with_links (map formal_of links) (frame_seen s.frame) → links ≡ main.formals.items
    → (known_of scope).entries
    ≡ add_formals (known_of s.scope).entries (map formal_of names) (known_of s.scope).entries
    → names ≡ main.formals.items → (known_of scope).blocks ≡ (known_of s.scope).blocks
    → site_of (record s { frame = frame; scope = scope }) ≡ in_main (procedure_of main) (site_of s)
main_begins main s frame scope links names linked all added each blocks =
    let es = (known_of s.scope).entries in
    let homes = linked
    ∙ ap (λ (fs : List code_formal.Formal). with_links (map formal_of fs) (frame_seen s.frame)) all in
    let entries = added ∙ ap (λ (fs : List code_formal.Formal). add_formals es (map formal_of fs) es) each in
    λ i. record {
      frame = homes i;
      known = record { entries = entries i; blocks = blocks i };
      label = s.label;
    }

-- The items of a program, where those before main are known, and where main begins.
pub record Begins (all before : List Item) (p : code_proc.Proc) (s : Start) (around : calling.Surroundings) : Type 0
  where
    pub items : map item_of all ≡ map item_of before ++ GlobalProcedure (procedure_of p) ∷ []
    pub precedes : Precedes s (map item_of before)
    pub code : code_of (map item_of before ++ GlobalProcedure (procedure_of p) ∷ [])
        ≡ main_code (surroundings_of around) (procedure_of p) (site_of s.writer)

-- what is around main, with the signatures before it and the procedures that were met
abbrev pub around_main : Bor (List Signature) → Bor (List code_callee.Callee) → (count deeper : ℕ) → Limits
    → calling.Surroundings
around_main signatures callees count deeper limits = record {
  around = record { signatures = signatures; uncounted = None };
  callees = callees;
  count = count;
  deeper = deeper;
  limits = limits;
}

-- The items are read of a program that breaks no rule, and the last one is this procedure.
pub begins : {program read : Program} {all before : List Item} {last : Item} {p : code_proc.Proc}
    {signatures : List Signature} {s : Start} (x : Signature) (rest : Bor (List Signature))
    (callees : Bor (List code_callee.Callee)) (count deeper : ℕ) (limits : Limits) → read ≡ program
    → all ≡ read.items.items → BreaksNoRule (map item_of read.items.items)
    → signatures_of signatures ≡ (after_items (map item_of program.items.items)).signatures
    → all ≡ before ++ last ∷ [] → last ≡ Proc p → signatures ≡ rest.now ++ x ∷ [] → callees.now ≡ s.callees.items
    → count ≡ length s.callees.items → Precedes s (map item_of before)
    → Begins program.items.items before p s (around_main rest callees count deeper limits)
begins {program = program} {before = before} {p = p} {signatures = signatures} {s = s} x rest callees count deeper
    limits same items unbroken signed split is those called counted precedes =
    let ours = map item_of before in
    let main = procedure_of p in
    let written = ap (λ (q : Program). q.items.items) (sym same) ∙ sym items ∙ split
    ∙ ap (λ (item : Item). before ++ item ∷ []) is in
    let seen : map item_of program.items.items ≡ ours ++ GlobalProcedure main ∷ [] =
    ap (map item_of) written ∙ map-append item_of before (Proc p ∷ []) in
    let before_main = signed_before ours main signatures rest.now x
    (subst (λ ys. signatures_of signatures ≡ (after_items ys).signatures) seen signed) those in
    let rules = subst (λ (q : Program). BreaksNoRule (map item_of q.items.items)) same unbroken in
    record {
      items = seen;
      precedes = precedes;
      code = main_code_is ours main s (around_main rest callees count deeper limits) (subst BreaksNoRule seen rules)
          precedes before_main refl called counted;
    }

pub program_written : (all before : List Item) (p : code_proc.Proc) (s : Start) (t : ProcessWriter)
    (around : calling.Surroundings) → Begins all before p s around → WritesMain s.writer t around (procedure_of p)
    → IfSome (code_of (map item_of all)) (λ c. record { pieces = t.listing; labels = t.label } ≡ c)
program_written all before p s t around x written =
    let code = main_code (surroundings_of around) (procedure_of p) (site_of s.writer) in
    subst (λ o. IfSome o (λ c. record { pieces = t.listing; labels = t.label } ≡ c))
    (sym x.code ∙ ap code_of (sym x.items))
    (appended code t.listing t.label
    (subst (λ old. Appends old t.listing t.label code) x.precedes.listing written))

much_code : (l : Limits) (code : Option Code) → l.is_sequential ≡ true → Exceeds l [] code → IsMuchCode l.names code
much_code l None sequential h = tt
much_code l (Some c) sequential h = h sequential

-- What bounds the code of a sequential program is what bounds sequential ones.
pub sequential_limits : (l : Limits) (items before : List ProgramItem) (main : Procedure)
    → items ≡ before ++ GlobalProcedure main ∷ [] → l.is_sequential ≡ is_sequential main.body
    → IsSequentialProgram items → l.is_sequential ≡ true
sequential_limits l items before main is tested sequential =
    let found = main_tested items sequential in
    let same : found.0 ≡ main = cc (found.1, ap main_of is, last_is_main before main) in
    tested ∙ ap (λ (q : Procedure). is_sequential q.body) (sym same) ∙ found.2

-- If the code of main is too much, so is that of the program.
pub program_exceeds : (all before : List Item) (p : code_proc.Proc) (s : Start) (around : calling.Surroundings)
    → Begins all before p s around → around.limits.names ≡ capped (names_in (map item_of all))
    → around.limits.is_sequential ≡ is_sequential (procedure_of p).body → IsSequentialProgram (map item_of all)
    → Exceeds around.limits s.writer.listing (main_code (surroundings_of around) (procedure_of p) (site_of s.writer))
    → IsMuchCode (capped (names_in (map item_of all))) (code_of (map item_of all))
program_exceeds all before p s around x names tested sequential h =
    let main = procedure_of p in
    let code = main_code (surroundings_of around) main (site_of s.writer) in
    let yes = sequential_limits around.limits (map item_of all) (map item_of before) main x.items tested sequential in
    subst (λ (y : ℕ × Option Code). IsMuchCode y.0 y.1) (λ i. (names i, (sym x.code ∙ ap code_of (sym x.items)) i))
    (much_code around.limits code yes (subst (λ old. Exceeds around.limits old code) x.precedes.listing h))
