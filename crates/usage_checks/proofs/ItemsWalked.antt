-- An item of a program is gone over, with what is known of it afterwards.
use Rattle.std.proofs.Common.{◌≡◌, ℕ, ◌+◌, true, List, [], ◌∷◌, ◌++◌, length, map, arith, refl, sym, ap, subst, ◌∙◌}
use Rattle.std.proofs.Common.{Result, Ok, Err, IfOk, Option, Some, None}
use Rattle.std.specs.Prelude.{fold}
use Rattle.std.specs.Option.{option_or}
use Rattle.std.specs.declared.alloc.AllocError.{AllocError}
use Rattle.occam_parser.specs.Lines.{Formal}
use Rattle.occam_parser.specs.Blocks.{Procedure, ProgramItem, GlobalProcedure}
use Rattle.scalar_ranges.specs.Entries as entries
use Rattle.scalar_ranges.specs.Entries.{Entry}
use Rattle.scalar_ranges.specs.Moves.{Known}
use Rattle.program_uses.specs.declared.signature.Signature.{Signature}
use Rattle.program_uses.specs.declared.uses.Use.{Use}
use Rattle.program_uses.specs.Declaring.{add}
use Rattle.program_uses.specs.Ends.{sorted_ends, with_end}
use Rattle.program_uses.specs.Actions.{Around}
use Rattle.program_uses.specs.Sets.{is_among}
use Rattle.program_uses.specs.Signatures.{Parameter, parameters_of}
use Rattle.program_uses.proofs.EndsInOrder.{same_ends}
use Rattle.usage_checks.specs.declared.telling.Findings.{Findings}
use Rattle.usage_checks.specs.declared.weighing.Weight.{Weight}
use Rattle.usage_checks.specs.FormalRules.{parameter_for}
use Rattle.usage_checks.specs.ItemRules.{after_procedure, BreaksProcedure, after_named, BreaksNamed, parameters_from}
use Rattle.usage_checks.specs.ItemRules.{signature_of, Outside, outermost, after_weighing, weighed, Ends, EndsCounting}
use Rattle.usage_checks.specs.ItemRules.{after_walk, BreaksWalk, after_item, BreaksItem, after_items, BreaksProgram}
use Rattle.usage_checks.specs.MainRules.{BreaksMain}
use Rattle.usage_checks.specs.NameRules.{BreaksName, with_entries}
use Rattle.program_sizes.specs.LineSizes.{capped}
use Rattle.usage_checks.specs.Sizes.{Measured, total, measures_of_item, end_in}
use Rattle.usage_checks.specs.Telling.{Walks}
use Rattle.usage_checks.specs.Weighing.{WeighsIn}
use Rattle.usage_checks.proofs.FaultsInOrder.{walks_moved, walks_both, walks_on}
use Rattle.usage_checks.proofs.OneAfterAnother.{WalksAll}
use Rattle.usage_checks.proofs.ParametersFound.{all_found}
use Rattle.usage_checks.proofs.PartsWeighed.{end_same}

-- what is found of formals by their head, and then by uses that are the same
pub signature_found : (es : List Entry) (first : ℕ) (fs : List Formal) (qs : List Parameter) (us vs : List Use)
    → first ≡ length es → qs ≡ map (parameter_for es) fs → ((u : Use) → is_among us u ≡ is_among vs u)
    → fold (with_end first) qs (sorted_ends us) ≡ parameters_from es (length es) (sorted_ends vs) fs
signature_found es first fs qs us vs long heads same =
    (λ i. fold (with_end (long i)) (heads i) (same_ends us vs same i))
    ∙ all_found es (length es) (sorted_ends vs) fs

-- the same of a signature, if memory was enough for it
pub if_signed : {C : Type 0} {there wanted : List Parameter} (r : Result Signature AllocError) → (C → there ≡ wanted)
    → IfOk r (λ s. parameters_of s ≡ there) → IfOk r (λ s. C → parameters_of s ≡ wanted)
if_signed (Ok s) same found = λ c. found ∙ same c
if_signed (Err e) same found = tt

-- a procedure, and then its name
pub walks_named : (a : Around) (p : Procedure) (k : Known) (n : ℕ) {s t w : Findings} {l m : Known}
    → n ≡ length a.signatures → Walks s t l (after_procedure a p k) (BreaksProcedure a p k)
    → Walks t w m (with_entries (add p.head.name (entries.Procedure n)) l) (BreaksName 0 p.line p.head.name l.entries)
    → Walks s w m (after_named a p k) (BreaksNamed a p k)
walks_named a p k n {s} {t} {w} {l} {m} long walked named =
    walks_both (with_entries (add p.head.name (entries.Procedure (length a.signatures))))
    (λ k. BreaksName 0 p.line p.head.name k.entries) walked
    (subst (λ n. Walks t w m (with_entries (add p.head.name (entries.Procedure n)) l)
    (BreaksName 0 p.line p.head.name l.entries)) long named)

pub walks_signed : (p : Procedure) (o : Outside) (given : List (List Parameter)) (q : List Parameter)
    {s t w : Findings} {l : Known} {after : List (List Parameter)} → given ≡ o.signatures
    → (let a : Around = record { signatures = given; uncounted = o.uncounted } in
    Walks s t l (after_named a p o.known) (BreaksNamed a p o.known))
    → (t.complete ≡ true → q ≡ signature_of (record { signatures = given; uncounted = o.uncounted }) p o.known)
    → Walks t w after (o.signatures ++ q ∷ []) (λ f. ⊥)
    → Walks s w (record o { known = l; signatures = after }) (after_walk (GlobalProcedure p) o)
    (BreaksWalk (GlobalProcedure p) o)
walks_signed p o given q {s} {t} {w} {l} {after} same walked found signs =
    let a : List (List Parameter) → Around = λ given. record { signatures = given; uncounted = o.uncounted } in
    let named = subst (λ given. Walks s t l (after_named (a given) p o.known) (BreaksNamed (a given) p o.known)) same
    walked in
    record {
      complete = λ e. named.complete (signs.complete e);
      known = λ e. (λ i. record o {
        known = named.known (signs.complete e) i;
        signatures = (signs.known e ∙ ap (λ q. o.signatures ++ q ∷ [])
            (found (signs.complete e) ∙ (λ i. signature_of (a (same i)) p o.known))) i;
      });
      first = (walks_on (λ k. o.signatures ++ q ∷ []) named signs).first;
    }

-- ---- the size of an item

capped_twice : (a : ℕ) → capped a ≡ capped (capped a)
capped_twice a = omega arith

capped_again : (a n : ℕ) → capped (a + n) ≡ capped (capped a + n)
capped_again a n = omega arith

-- what is known after an item was weighed, by its weight
pub weighed_is : (item : ProgramItem) (k l : Known) (signatures : List (List Parameter)) {v w : Weight}
    {ms : List Measured} → v.over ≡ None → ms ≡ measures_of_item signatures k.entries item → w.complete ≡ true
    → WeighsIn v w k l ms
    → (let o : Weight → Known → Outside = λ w k.
    record { known = k; signatures = signatures; size = capped w.sum; uncounted = w.over } in
    o w l ≡ weighed item (o v k))
weighed_is item k l signatures {v} {w} {ms} none is complete x =
    let o : Outside = record { known = k; signatures = signatures; size = capped v.sum; uncounted = v.over } in
    let after : Outside = record { known = l; signatures = signatures; size = capped w.sum; uncounted = w.over } in
    let over = x.weight.over complete ∙ ap (λ y. option_or y (end_in v.sum ms)) none
    ∙ end_same v.sum (capped v.sum) ms (capped_twice v.sum) in
    let all : after ≡ after_weighing None ms o = λ i. record {
      known = x.scope i;
      signatures = signatures;
      size = (x.weight.sum complete ∙ capped_again v.sum (total ms)) i;
      uncounted = over i;
    } in
    all ∙ (λ i. after_weighing (sym none i) (is i) o)

-- counting goes on, and may end in this item
pub walks_weighed : (item : ProgramItem) (o after : Outside) {s t : Findings} → o.uncounted ≡ None
    → after ≡ weighed item o → Walks s t after after (Ends None after.uncounted)
    → Walks s t after (weighed item o) (EndsCounting item o)
walks_weighed item o after {s} {t} none is walked =
    subst (λ (x : Outside × Option ℕ). Walks s t after x.0 (Ends x.1 x.0.uncounted)) (λ i. (is i, sym none i)) walked

-- counting has ended before
pub walks_unweighed : (item : ProgramItem) (o : Outside) (line : ℕ) {s : Findings} → o.uncounted ≡ Some line
    → Walks s s o (weighed item o) (EndsCounting item o)
walks_unweighed item o line {s} ended =
    let ms = measures_of_item o.signatures o.known.entries item in
    subst (λ (x : Option ℕ). Walks s s o (after_weighing x ms o) (Ends x (after_weighing x ms o).uncounted)) (sym ended)
    (walks_moved s o o refl)

-- the items of a program, from nothing known, and then the last one
pub walks_program : (items : List ProgramItem) (o : Outside) {s t w : Findings} {l : Outside} → o ≡ outermost
    → WalksAll after_item BreaksItem items s t o l → Walks t w l l (BreaksMain items)
    → Walks s w l (after_items items) (BreaksProgram items)
walks_program items o {s} {t} {w} {l} start walked last =
    walks_both (λ o. o) (λ o f. BreaksMain items f)
    (subst (λ o. WalksAll after_item BreaksItem items s t o l) start walked) last
