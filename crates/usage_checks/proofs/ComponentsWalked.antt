-- A process is gone over by its declarations and its construct, and a block component by component.
use Rattle.std.proofs.Common.{◌≡◌, ℕ, ◌+◌, ◌<◌, ◌≤◌, true, List, [], ◌∷◌, length, map, take, get_or, Some, inl, inr}
use Rattle.std.proofs.Common.{refl, sym, ap, subst, ◌∙◌, ◌⊎◌}
use Rattle.std.proofs.lemmas.List.{take_all}
use Rattle.occam_layout.specs.declared.mark.Mark.TheVariants as mark
use Rattle.occam_parser.specs.Expressions.{Expression}
use Rattle.occam_parser.specs.Lines.{Declaration, Guard}
use Rattle.occam_parser.specs.Terminals.{Terminal, Mark}
use Rattle.occam_parser.specs.Blocks.{Process, Does, Construct, Part, Components, Component, Plain, Chosen, Guarded}
use Rattle.occam_parser.specs.BlockReading.{with_declarations}
use Rattle.occam_parser.specs.BlockViews.{all_of}
use Rattle.occam_parser.proofs.SeenBlocks.{all_push}
use Rattle.scalar_ranges.specs.Moves.{Known, exclude, next, next_component}
use Rattle.program_uses.specs.Actions.{Around}
use Rattle.program_uses.specs.ActionViews.{around_of}
use Rattle.program_uses.specs.Changes.{changed_by}
use Rattle.program_uses.specs.Listing.{SameNumbers}
use Rattle.program_uses.specs.Declaring.{add_declaration}
use Rattle.program_uses.specs.Entering.{add_declarations}
use Rattle.program_uses.proofs.Adding.{taken_one}
use Rattle.usage_checks.specs.declared.blocks.Site.{Site}
use Rattle.usage_checks.specs.declared.channel_rules.Position.{Position}
use Rattle.program_uses.specs.declared.telling.UsageFault.{UsageFault}
use Rattle.usage_checks.specs.declared.telling.Findings.{Findings}
use Rattle.usage_checks.specs.ActionRules.{BreaksGuard}
use Rattle.usage_checks.specs.AfterProcesses.{inside, after_construct, after_components, after_component, begun, ended}
use Rattle.usage_checks.specs.Following.{where_holds, after_guard}
use Rattle.usage_checks.specs.LineRules.{BreaksCondition}
use Rattle.usage_checks.specs.NameRules.{BreakDeclarations, with_entries}
use Rattle.usage_checks.specs.ProcessRules.{BreaksIn, BreaksConstruct, position_in, BreakComponents}
use Rattle.usage_checks.specs.ProcessRules.{BreaksComponent}
use Rattle.program_uses.specs.Telling.{At}
use Rattle.usage_checks.specs.Telling.{Walks}
use Rattle.usage_checks.specs.Walking.{WalksProcess, WalksConstruct, WalksComponents, WalksComponent, WalksBlock}
use Rattle.usage_checks.proofs.FaultsInOrder.{walks_both, walks_then, walks_as}
use Rattle.usage_checks.proofs.NumbersAlike.{component_alike}

-- ---- declarations, and then a construct

known_behind : (a : Around) (ds : List Declaration) (line : ℕ) (c : Construct) (k : Known)
    → after_construct a line c (with_entries (add_declarations ds) k) ≡ inside a (with_declarations ds (Does line c)) k
known_behind a [] line c k = refl
known_behind a (d ∷ ds) line c k = known_behind a ds line c (with_entries (add_declaration d) k)

broken_behind : (a : Around) (p : Position) (first : ℕ) (ds : List Declaration) (line : ℕ) (c : Construct) (k : Known)
    (f : UsageFault)
    → BreakDeclarations first ds k.entries f ⊎ BreaksConstruct a p line c (with_entries (add_declarations ds) k) f
    → BreaksIn a p first (with_declarations ds (Does line c)) k f
broken_behind a p first [] line c k f (inl x) = absurd x
broken_behind a p first [] line c k f (inr y) = y
broken_behind a p first (d ∷ ds) line c k f (inl (inl x)) = inl x
broken_behind a p first (d ∷ ds) line c k f (inl (inr x)) =
    inr (broken_behind a p first ds line c (with_entries (add_declaration d) k) f (inl x))
broken_behind a p first (d ∷ ds) line c k f (inr y) =
    inr (broken_behind a p first ds line c (with_entries (add_declaration d) k) f (inr y))

broken_before : (a : Around) (p : Position) (first : ℕ) (ds : List Declaration) (line : ℕ) (c : Construct) (k : Known)
    (f : UsageFault) → BreaksIn a p first (with_declarations ds (Does line c)) k f
    → BreakDeclarations first ds k.entries f ⊎ BreaksConstruct a p line c (with_entries (add_declarations ds) k) f
broken_before a p first [] line c k f y = inr y
broken_before a p first (d ∷ ds) line c k f (inl x) = inl (inl x)
broken_before a p first (d ∷ ds) line c k f (inr y) =
    elim (broken_before a p first ds line c (with_entries (add_declaration d) k) f y)
    [ inl x ↦ inl (inr x) | inr z ↦ inr z ]

pub walks_behind : {s t w : Findings} {l m : Known} (site : Site) (ds : List Declaration) (line : ℕ) (c : Construct)
    (k : Known) (p : Process) → with_declarations ds (Does line c) ≡ p
    → Walks s t l (with_entries (add_declarations ds) k) (BreakDeclarations (length k.entries) ds k.entries)
    → WalksConstruct t w site line c l m → WalksProcess s w site p k m
walks_behind {s} {w = w} {m = m} site ds line c k p is declared rest =
    let a = around_of site.around in
    let first = length k.entries in
    let both = walks_both (after_construct a line c) (BreaksConstruct a site.position line c) declared rest in
    let whole = walks_as (broken_behind a site.position first ds line c k)
    (broken_before a site.position first ds line c k) both in
    subst (λ q. WalksProcess s w site q k m) is
    (subst (λ x. Walks s w m x (BreaksIn a site.position first (with_declarations ds (Does line c)) k))
    (known_behind a ds line c k) whole)

-- ---- components

pub components_next : {part : Part} {A : Type 0} (site : Site) (word : Terminal) (f : A → Component part)
    (xs : List A) (i : ℕ) (x : A) (k : Known) {s t w : Findings} {l m : Known} → i < length xs → x ≡ get_or xs i x
    → WalksComponents s t site word (all_of (map f (take i xs))) k l → WalksComponent t w site word (f x) l m
    → WalksComponents s w site word (all_of (map f (take (i + 1) xs))) k m
components_next site word f xs i x k {s} {w = w} {m = m} h is before more =
    let a = around_of site.around in
    subst (λ cs. WalksComponents s w site word cs k m)
    (sym (all_push f (take i xs) (take (i + 1) xs) x (taken_one xs i x x h is)))
    (walks_both (after_component a word (f x)) (BreaksComponent a site.position (f x)) before more)

pub components_all : {part : Part} {A : Type 0} (site : Site) (word : Terminal) (f : A → Component part)
    (xs : List A) (i : ℕ) (k : Known) {s t : Findings} {l : Known} → length xs ≤ i
    → WalksComponents s t site word (all_of (map f (take i xs))) k l
    → WalksComponents s t site word (all_of (map f xs)) k l
components_all site word f xs i k {s} {t} {l} done x =
    subst (λ ys. WalksComponents s t site word (all_of (map f ys)) k l) (take_all i xs done) x

-- ---- blocks

only_second : (P : UsageFault → Type 0) (f : UsageFault) → ⊥ ⊎ P f → P f
only_second P f (inl x) = absurd x
only_second P f (inr p) = p

second_only : (P : UsageFault → Type 0) (f : UsageFault) → P f → ⊥ ⊎ P f
second_only P f p = inr p

-- a move for which nothing is checked, and then a part
pub walks_after : {s t w : Findings} {k l m : Known} (g : Known → Known) (Q : Known → UsageFault → Type 0)
    → Walks s t k l (λ f. ⊥) → Walks t w m (g k) (Q k) → Walks s w m (g l) (Q l)
walks_after {l = l} g Q a b = walks_as (only_second (Q l)) (second_only (Q l)) (walks_both g Q a b)

-- a part, and then a move that is the one that is wanted if memory was enough
pub walks_then_if : {s t : Findings} {k l m : Known} {P : UsageFault → Type 0} (g : Known → Known) → Walks s t k l P
    → (t.complete ≡ true → m ≡ g k) → Walks s t m (g l) P
walks_then_if g a e = record {
  complete = a.complete;
  known = λ c. e c ∙ ap g (a.known c);
  first = a.first;
}

-- a block begins, its components are gone over, and it ends
pub walks_block : {part : Part} (site : Site) (word : Terminal) (cs : Components part) (k : Known) {s t w : Findings}
    {l m n : Known} → Walks s t l (begun word k) (λ f. ⊥) → WalksComponents t w site word cs l m → n ≡ ended word m
    → Walks s w n (ended word (after_components (around_of site.around) word cs (begun word k)))
    (BreakComponents (around_of site.around) site.position word cs (begun word k))
walks_block site word cs k begins components ends =
    let a = around_of site.around in
    walks_then (ended word)
    (walks_after (after_components a word cs) (BreakComponents a site.position word cs) begins components) ends

-- the components of a PAR, which are elsewhere than it
pub walks_par : {part : Part} (site inner : Site) (count : ℕ) (cs : Components part) (k : Known) {s t w : Findings}
    {l m n : Known} → inner.around ≡ site.around
    → inner.position ≡ position_in (Mark mark.Par) count site.position → count ≡ length k.entries
    → Walks s t l (begun (Mark mark.Par) k) (λ f. ⊥) → WalksComponents t w inner (Mark mark.Par) cs l m
    → n ≡ ended (Mark mark.Par) m → WalksBlock s w site (Mark mark.Par) cs k n
walks_par site inner count cs k {s} {t} {w} {n = n} around position long begins components ends =
    let word = Mark mark.Par in
    subst (λ (x : Around × Position). Walks s w n (ended word (after_components x.0 word cs (begun word k)))
    (BreakComponents x.0 x.1 word cs (begun word k)))
    (λ i. (around_of (around i), (position ∙ ap (λ c. position_in word c site.position) long) i))
    (walks_block inner word cs k begins components ends)

-- a component of a PAR, with the variables that it changes
pub walks_component : (site : Site) (p : Process) (k : Known) {s t w : Findings} {j l m : Known} (numbers : List ℕ)
    → Walks s t j k (λ f. ⊥)
    → (t.complete ≡ true → SameNumbers numbers (changed_by (around_of site.around).signatures k.entries p))
    → WalksProcess t w site p j l → m ≡ next_component numbers l
    → WalksComponent s w site (Mark mark.Par) (Plain p) k m
walks_component site p k {t = t} {w = w} {l = l} {m = m} numbers changes same walked moved =
    let a = around_of site.around in
    let both = walks_after (inside a p) (λ k. BreaksIn a site.position (length k.entries) p k) changes walked in
    walks_then_if (next_component (changed_by a.signatures k.entries p)) both
    (λ e. moved ∙ component_alike numbers (changed_by a.signatures k.entries p) l (same (walked.complete e)))

-- a choice of an IF
pub walks_choice : (site : Site) (line : ℕ) (e : Expression) (p : Process) (k j : Known) {s t w : Findings}
    {l m n : Known} → j ≡ exclude e k
    → Walks s t l (with_entries (where_holds (Some e)) j) (At line (BreaksCondition j.entries e))
    → WalksProcess t w site p l m → n ≡ next m → WalksComponent s w site (Mark mark.If) (Chosen line e p) k n
walks_choice site line e p k j {s} {w = w} {n = n} excluded asked walked moved =
    let a = around_of site.around in
    let both = walks_then next (walks_both (inside a p) (λ k. BreaksIn a site.position (length k.entries) p k) asked
    walked) moved in
    subst (λ j. Walks s w n (next (inside a p (with_entries (where_holds (Some e)) j)))
    (λ f. At line (BreaksCondition j.entries e) f
    ⊎ BreaksIn a site.position (length (with_entries (where_holds (Some e)) j).entries) p
    (with_entries (where_holds (Some e)) j) f)) excluded both

-- a branch of an ALT
pub walks_branch : (site : Site) (line : ℕ) (g : Guard) (p : Process) (k : Known) {s t w : Findings} {l m n : Known}
    → Walks s t l (with_entries (after_guard g) k) (At line (BreaksGuard site.position k.entries g))
    → WalksProcess t w site p l m → n ≡ next m → WalksComponent s w site (Mark mark.Alt) (Guarded line g p) k n
walks_branch site line g p k asked walked moved =
    let a = around_of site.around in
    walks_then next
    (walks_both (inside a p) (λ k. BreaksIn a site.position (length k.entries) p k) asked walked) moved
