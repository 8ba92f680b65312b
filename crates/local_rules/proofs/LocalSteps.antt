-- The rules of instructions on words, one test after another.
use Rattle.std.proofs.Common.{◌≡◌, ℤ, pos, ◌*ℤ◌, ◌+ℤ◌, ◌+◌, sym, ap, ◌∙◌, to_z, of_z}
use Rattle.std.proofs.lemmas.Int.{to_z-of_z}
use Rattle.std.specs.Prelude.{FitsSigned}
use Rattle.std.specs.Int.{w32}
use Rattle.module_format.specs.Rows.{Fact}
use Rattle.module_format.specs.declared.fact.Fact.TheVariants.{Number, Pointer}
use Rattle.module_format.specs.declared.fact.Region.TheVariants as regions
use Rattle.module_format.specs.declared.fact.Step.TheVariants.{Word}
use Rattle.machine_state.specs.declared.instruction.Instruction.TheVariants.{Jump, LoadConstant, LoadLocal, StoreLocal}
use Rattle.machine_state.specs.declared.instruction.Instruction.TheVariants.{LoadLocalPointer}
use Rattle.machine_state.specs.LocalStep.{target}
use Rattle.states.specs.declared.known.Known.{Known}
use Rattle.states.specs.declared.known.WordFact.{WordFact}
use Rattle.states.specs.State.{State, known, written}
use Rattle.rulings.specs.Rulings.{Ruling, Site, outside_alternation, outside_starts, alone, uses, forward, writes_word}
use Rattle.rulings.specs.Rulings.{reads_word, goes_on, goes_to, push, pop}
use Rattle.rulings.specs.Pointers.{near}
use Rattle.local_rules.specs.WordRules.{word_as_known}
use Rattle.local_rules.specs.LocalRules.{local_rule}

pub load_constant-done : (site : Site) (s t : State) (e d : ℤ) (v : Known) → v ≡ known (Number d d) → d ≡ e
    → t ≡ push v s → local_rule site LoadConstant e s ≡ goes_on site t
unfolding local_rule
load_constant-done site s t e d v v_is d_is t_is =
    ap (goes_on site) (sym (t_is ∙ ap (λ x. push x s) (v_is ∙ ap (λ (z : ℤ). known (Number z z)) d_is)))

pub local_pointer-is : (site : Site) (s : State) (e z : ℤ) → z ≡ pos 4 *ℤ (s.depth +ℤ e)
    → local_rule site LoadLocalPointer e s ≡ near z (goes_on site (push (known (Pointer regions.Frame z z Word)) s))
unfolding local_rule
local_pointer-is site s e z is =
    sym (ap (λ (z : ℤ). near z (goes_on site (push (known (Pointer regions.Frame z z Word)) s))) is)

pub local_pointer-done : (site : Site) (s t : State) (z o : ℤ) (v : Known) → o ≡ z
    → v ≡ known (Pointer regions.Frame o o Word) → t ≡ push v s
    → goes_on site (push (known (Pointer regions.Frame z z Word)) s) ≡ goes_on site t
local_pointer-done site s t z o v o_is v_is t_is =
    ap (goes_on site)
    (sym (t_is ∙ ap (λ x. push x s) (v_is ∙ ap (λ (o : ℤ). known (Pointer regions.Frame o o Word)) o_is)))

-- what ldl leaves
abbrev pub after_load : ℤ → State → State
after_load k s = push (word_as_known k (s.frame k)) s

pub load_local-own : (site : Site) (s : State) (e : ℤ) → FitsSigned w32 e
    → ((n : Ruling) → outside_starts s.mode n ≡ n)
    → let k = s.depth +ℤ to_z w32 (of_z w32 e) in
    local_rule site LoadLocal e s ≡ reads_word site s k (goes_on site (after_load k s))
unfolding local_rule
load_local-own site s e fits starts =
    starts _ ∙ ap (λ (z : ℤ). reads_word site s (s.depth +ℤ z) (goes_on site (after_load (s.depth +ℤ z) s)))
    (sym (to_z-of_z w32 e fits))

pub load_local-after : (s t : State) (k z : ℤ) (fact : WordFact) (v : Known) → z ≡ k → fact ≡ s.frame z
    → v ≡ word_as_known z fact → t ≡ push v s → after_load k s ≡ t
load_local-after s t k z fact v z_is fact_is v_is t_is =
    sym (t_is ∙ ap (λ x. push x s) (v_is ∙ ap (word_as_known z) fact_is
    ∙ ap (λ (x : ℤ). word_as_known x (s.frame x)) z_is))

-- what stl leaves
abbrev pub after_store : ℤ → Fact → State → State
after_store k fact s = pop (written k fact s)

pub store_local-own : (site : Site) (s : State) (e : ℤ) (fact : Fact) → FitsSigned w32 e
    → ((n : Fact → Ruling) → uses s.stack.a n ≡ n fact) → ((n : Ruling) → alone s.mode n ≡ n)
    → let k = s.depth +ℤ to_z w32 (of_z w32 e) in
    local_rule site StoreLocal e s ≡ writes_word site s k (goes_on site (after_store k fact s))
unfolding local_rule
store_local-own site s e fact fits used passes =
    used _ ∙ (passes _ ∙ ap (λ (z : ℤ). writes_word site s (s.depth +ℤ z)
    (goes_on site (after_store (s.depth +ℤ z) fact s))) (sym (to_z-of_z w32 e fits)))

pub store_local-after : (s t u : State) (k z : ℤ) (fact : Fact) → z ≡ k → t ≡ written z fact s → u ≡ pop t
    → after_store k fact s ≡ u
store_local-after s t u k z fact z_is t_is u_is = sym (u_is ∙ ap pop (t_is ∙ ap (λ (x : ℤ). written x fact s) z_is))

pub jump-forward : (site : Site) (s : State) (e : ℤ) → FitsSigned w32 e
    → ((n : Ruling) → outside_alternation s.mode n ≡ n)
    → let d = to_z w32 (of_z w32 e) in
    local_rule site Jump e s ≡ forward d (goes_to site (target (site.at + site.length) d) s)
unfolding local_rule
jump-forward site s e fits alternation =
    alternation _
    ∙ ap (λ (z : ℤ). forward z (goes_to site (target (site.at + site.length) z) s)) (sym (to_z-of_z w32 e fits))
