-- The lists that were made where a procedure begins serve in each part of it to which the walk comes.
use Rattle.std.proofs.Common.{◌≡◌, ℕ, ◌<◌, true, List, [], ◌∷◌, length, map, take, get_or, Bool, Option, Some, None}
use Rattle.std.proofs.Common.{refl}
use Rattle.std.proofs.Common.{sym, ap, subst, ◌∙◌, option_and_then}
use Rattle.occam_layout.specs.declared.mark.Mark.TheVariants as mark
use Rattle.occam_parser.specs.Terminals.{Terminal, Mark}
use Rattle.occam_parser.specs.Lines.{Declaration, Replicator}
use Rattle.occam_parser.specs.Blocks.{Process, Does, Construct, Replicated, Body, One, Part, Components}
use Rattle.occam_parser.specs.Blocks.{Component, Plain, Chosen, Guarded}
use Rattle.occam_parser.specs.BlockReading.{with_declarations}
use Rattle.occam_parser.specs.BlockViews.{all_of}
use Rattle.scalar_ranges.specs.Entries.{Entry, Meaning}
use Rattle.scalar_ranges.specs.Moves.{Known, begin}
use Rattle.scalar_ranges.specs.Nesting.{AreNested}
use Rattle.program_uses.specs.Actions.{is_before}
use Rattle.program_uses.specs.ActionViews.{around_of}
use Rattle.program_uses.specs.Changes.{changed_by, changed_by_body}
use Rattle.program_uses.specs.declared.listing.ChangeLists.{ChangeLists}
use Rattle.program_uses.specs.Declaring.{add, add_outline}
use Rattle.program_uses.specs.Entering.{add_declarations}
use Rattle.program_uses.specs.Indices.{is_sequence, index_meaning, Repeats, repeats_of, index_in, turn_by_turn}
use Rattle.program_uses.specs.Listing.{SameNumbers, list_on, entry_on, Stands, IsListed, AreListed, ListsBody}
use Rattle.program_uses.specs.Listing.{ListsComponents, ListsComponent, ListsOne}
use Rattle.program_uses.specs.Outlines.{outline}
use Rattle.program_uses.specs.Signatures.{Parameter}
use Rattle.program_uses.proofs.ListsAlike.{lists_alike, part_alike, lists_behind, lists_one}
use Rattle.usage_checks.specs.declared.blocks.Site.{Site}
use Rattle.program_uses.specs.declared.telling.UsageFault.{UsageFault}
use Rattle.usage_checks.specs.declared.telling.Findings.{Findings}
use Rattle.usage_checks.specs.AfterProcesses.{begun, unless, begun_turns, begun_body, after_components}
use Rattle.usage_checks.specs.HavingLists.{HasProcess, HasConstruct, HasComponents, HasComponent, HasBody, HasTurn}
use Rattle.usage_checks.specs.NameRules.{with_entries}
use Rattle.usage_checks.specs.Outlines.{IsMadeOf}
use Rattle.usage_checks.specs.Reaching.{process_of, entered, turn_of, in_turn_of}
use Rattle.usage_checks.specs.Telling.{Walks}
use Rattle.usage_checks.specs.Walking.{word_of, WalksComponents}
use Rattle.usage_checks.proofs.OutlinesStay.{outlines_stay}
use Rattle.usage_checks.proofs.TurnsWalked.{WalksTurns, entries_unless}

-- ---- a list that is there

only_list : (o : Option (Option (List ℕ))) (ns ms : List ℕ) → option_and_then (λ o. o) o ≡ Some ns → Stands o ms
    → SameNumbers ns ms
only_list None ns ms is x = absurd x
only_list (Some None) ns ms is x = absurd cc
only_list (Some (Some ps)) ns ms is x = (let same : ps ≡ ns = cc in subst (λ ks. SameNumbers ks ms) same x)

pub list_is : (t : ChangeLists) (line : ℕ) (ns ms : List ℕ) → list_on line t ≡ Some ns → IsListed t line ms
    → SameNumbers ns ms
list_is t line ns ms is x = only_list (entry_on line t) ns ms is x

-- A process is listed on the line of its construct.
pub listed_process : (t : ChangeLists) (signatures : List (List Parameter)) (es : List Entry) (ds : List Declaration)
    (line : ℕ) (c : Construct) → AreListed t signatures es (with_declarations ds (Does line c))
    → IsListed t line (changed_by signatures es (with_declarations ds (Does line c)))
listed_process t signatures es [] line c x = x.0
listed_process t signatures es (d ∷ ds) line c x = listed_process t signatures (add_outline d es) ds line c x

pub listed_changes : (t : ChangeLists) (signatures : List (List Parameter)) (es : List Entry) (ds : List Declaration)
    (line : ℕ) (c : Construct) (p : Process) (ns : List ℕ) → with_declarations ds (Does line c) ≡ p
    → list_on line t ≡ Some ns → AreListed t signatures es p → SameNumbers ns (changed_by signatures es p)
listed_changes t signatures es ds line c p ns is found x =
    list_is t line ns (changed_by signatures es p) found
    (subst (λ p. IsListed t line (changed_by signatures es p)) is
    (listed_process t signatures es ds line c (subst (AreListed t signatures es) (sym is) x)))

-- ---- parts of a process

pub has_behind : {s t : Findings} {l : Known} {P : UsageFault → Type 0} (site : Site) (ds : List Declaration) (line : ℕ)
    (c : Construct) (k : Known) (p : Process) → with_declarations ds (Does line c) ≡ p → HasProcess s site p k
    → Walks s t l (with_entries (add_declarations ds) k) P → HasConstruct t site line c l
has_behind site ds line c k p is has walked = λ e.
    let signatures = (around_of site.around).signatures in
    let t = site.lists.now in
    let x = subst (AreListed t signatures k.entries) (sym is) (has (walked.complete e)) in
    subst (λ (l : Known). AreListed t signatures l.entries (Does line c)) (sym (walked.known e))
    (lists_behind t signatures ds line c k.entries k.entries refl x)

begun_entries : (word : Terminal) (part : Part) (k : Known) → IsMadeOf word part → (begun word k).entries ≡ k.entries
begun_entries (Mark mark.Seq) part k made = refl
begun_entries (Mark mark.Par) part k made = refl
begun_entries (Mark mark.If) part k made = refl
begun_entries (Mark mark.Alt) part k made = refl
begun_entries word part k made = absurd made

-- the next component of a block
pub has_next : {part : Part} {A : Type 0} {s u t : Findings} {j l : Known} (site : Site) (word : Terminal)
    (f : A → Component part) (xs : List A) (i : ℕ) (x : A) (k : Known) → IsMadeOf word part
    → AreNested k.entries k.blocks → i < length xs → x ≡ get_or xs i x → HasComponents s site (all_of (map f xs)) k
    → Walks s u j (begun word k) (λ f. ⊥) → WalksComponents u t site word (all_of (map f (take i xs))) j l
    → HasComponent t site (f x) l
has_next {part} {l = l} site word f xs i x k made nested h is has begins walked = λ e.
    let a = around_of site.around in
    let cs = all_of (map f (take i xs)) in
    let u = walked.complete e in
    let known = walked.known e ∙ ap (after_components a word cs) (begins.known u) in
    let same = ap (λ (l : Known). outline l.entries) known ∙ (outlines_stay.components a word cs k nested made).entries
    ∙ ap outline (begun_entries word part k made) in
    part_alike site.lists.now a.signatures (f x) k.entries l.entries (sym same)
    (lists_one site.lists.now a.signatures k.entries f xs i x h is (has (begins.complete u)))

pub has_elsewhere : {part : Part} (s : Findings) (site inner : Site) (cs : Components part) (k : Known)
    → inner.around ≡ site.around → inner.lists ≡ site.lists → HasComponents s site cs k → HasComponents s inner cs k
has_elsewhere s site inner cs k around lists has = λ e.
    subst (λ y. y) (λ i. ListsComponents (sym lists i).now (around_of (sym around i)).signatures k.entries cs) (has e)

within : {part : Part} (t : ChangeLists) (signatures : List (List Parameter)) (es : List Entry) (c : Component part)
    → ListsComponent t signatures es c → AreListed t signatures es (process_of c)
within t signatures es (Plain p) x = x
within t signatures es (Chosen line e p) x = x
within t signatures es (Guarded line g p) x = x

-- the process of a component
pub has_entered : {part : Part} {s t : Findings} {l : Known} {P : UsageFault → Type 0} (site : Site)
    (c : Component part) (k : Known) → AreNested k.entries k.blocks → HasComponent s site c k
    → Walks s t l (entered c k) P → HasProcess t site (process_of c) l
has_entered {l = l} site c k nested has walked = λ e.
    let signatures = (around_of site.around).signatures in
    let same = ap (λ (l : Known). outline l.entries) (walked.known e) ∙ (outlines_stay.entering c k nested).entries in
    lists_alike site.lists.now signatures (process_of c) k.entries l.entries (sym same)
    (within site.lists.now signatures k.entries c (has (walked.complete e)))

-- ---- the body of a replicator

pub has_body : {s t : Findings} {l : Known} (site : Site) (line : ℕ) (r : Replicator) (b : Body) (happens : Bool)
    (k : Known) → HasConstruct s site line (Replicated r b) k → Walks s t l (unless happens begin k) (λ f. ⊥)
    → HasBody t site line r b l
has_body site line r b happens k has walked = λ e.
    let signatures = (around_of site.around).signatures in
    subst (λ es. IsListed site.lists.now line (changed_by_body signatures es r b))
    (sym (ap (λ (l : Known). l.entries) (walked.known e) ∙ entries_unless happens k)) (has (walked.complete e)).0

one_has : (b : Body) (t : ChangeLists) (signatures : List (List Parameter)) (es fs : List Entry) (r : Replicator)
    → ListsBody t signatures es r b → outline (add r.name (index_meaning (is_sequence b) None) es) ≡ outline fs
    → ListsOne t signatures fs b
one_has (One kind c) t signatures es fs r x same =
    part_alike t signatures c (add r.name (index_meaning (is_sequence (One kind c)) None) es) fs same x

turn_has : (s : Findings) (site : Site) (b : Body) (k : Known)
    → (s.complete ≡ true → ListsOne site.lists.now (around_of site.around).signatures k.entries b) → HasTurn s site b k
turn_has s site (One kind c) k has = has

-- the component under a replicator, where a turn begins
pub has_turn : {s t u v w : Findings} {j l m h : Known} (site inner : Site) (line : ℕ) (r : Replicator) (b : Body)
    (repeats : Repeats) (n : ℕ) (index : Meaning) (k : Known) → inner.around ≡ site.around → inner.lists ≡ site.lists
    → AreNested k.entries k.blocks
    → repeats ≡ repeats_of (is_before line (around_of site.around).uncounted) k.entries (is_sequence b) r
    → n < repeats.turns.count → HasConstruct s site line (Replicated r b) k
    → Walks s t j (unless repeats.happens begin k) (λ f. ⊥)
    → Walks t u l (begun_turns (word_of b)
    (changed_by_body (around_of site.around).signatures j.entries r b) j) (λ f. ⊥)
    → index ≡ index_in repeats n → WalksTurns u v inner r b repeats n l m
    → Walks v w h (with_entries (add r.name index) m) (λ f. ⊥) → HasTurn w inner b h
has_turn {w = w} {j = j} {l = l} {m = m} {h = h} site inner line r b repeats n index k around lists nested is below has
    outer begins means turns entered =
    let a = around_of site.around in
    let t = site.lists.now in
    let all = repeats_of (is_before line a.uncounted) k.entries (is_sequence b) r in
    let start : Repeats → Known = λ x.
    begun_body (word_of b) (changed_by_body a.signatures k.entries r b) x.happens k in
    turn_has w inner b h (λ e.
    let v = entered.complete e in
    let u = turns.complete v in
    let t' = begins.complete u in
    let opened = outer.known t' in
    let at_start : l ≡ start repeats = begins.known u
    ∙ (λ i. begun_turns (word_of b) (changed_by_body a.signatures (opened i).entries r b) (opened i))
    ∙ ap (λ es. begun_turns (word_of b) (changed_by_body a.signatures es r b) (unless repeats.happens begin k))
    (entries_unless repeats.happens k) in
    let at_turn : m ≡ turn_by_turn (turn_of a r b repeats) n (start repeats) = turns.known v
    ∙ (λ i. turn_by_turn (turn_of (around_of (around i)) r b repeats) n (at_start i)) in
    let here : h ≡ in_turn_of a line r b k n = entered.known e
    ∙ (λ i. with_entries (add r.name (means i)) (at_turn i))
    ∙ (λ i. with_entries (add r.name (index_in (is i) n)) (turn_by_turn (turn_of a r b (is i)) n (start (is i)))) in
    let same = ap (λ (l : Known). outline l.entries) here
    ∙ outlines_stay.turns a line r b k n nested (subst (λ (x : Repeats). n < x.turns.count) is below) in
    subst (λ y. y) (λ i. ListsOne (sym lists i).now (around_of (sym around i)).signatures h.entries b)
    (one_has b t a.signatures k.entries h.entries r (has (outer.complete t')).1 (sym same)))
