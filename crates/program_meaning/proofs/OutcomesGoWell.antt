-- Outcomes that are not stuck and leave what is known true, put together.
use Rattle.std.proofs.Common.{ℕ, zero, suc, ◌<◌, Bool, List, [], ◌∷◌, inl, inr, subst, arith}
use Rattle.scalar_ranges.specs.Entries.{Meaning, Scalar, Entry}
use Rattle.scalar_ranges.specs.Environments.{Held, Environment}
use Rattle.scalar_ranges.specs.Moves.{outermost, widen, is_one_of}
use Rattle.scalar_ranges.proofs.MoveLaws.{leaving_holds}
use Rattle.program_uses.specs.Indices.{turn_by_turn}
use Rattle.program_meaning.specs.Links.{Links}
use Rattle.program_meaning.specs.Running.{Outcome, Goes, Waits, Stuck, followed, left}
use Rattle.program_meaning.specs.TypedValues.{HoldsOf, HasType, AreTyped}
use Rattle.program_meaning.specs.RangesWithin.{ScalarWithin, MeaningWithin, EntriesWithin}
use Rattle.program_meaning.specs.GoingWell.{IsTrueIn, IsWell, GoesWell, OutcomesGoWell}
use Rattle.program_meaning.proofs.LoopsGoOn.{loops_go_on}
use Rattle.program_meaning.proofs.TypesStay.{types_stay}

-- ---- types

scalar_typed : (free : Bool) (m n : Meaning) (h : Held) → ScalarWithin free m n → HasType m h → HasType n h
scalar_typed free (Scalar kind type r) (Scalar k t s) h within typed = subst (λ u. HoldsOf u h) within.1 typed
scalar_typed free (Scalar kind type r) n h within typed = absurd within
scalar_typed free m n h within typed = absurd within

meaning_typed : (free : Bool) (m n : Meaning) (h : Held) → MeaningWithin free m n → HasType m h → HasType n h
meaning_typed free m n h (inl same) typed = subst (λ x. HasType x h) same typed
meaning_typed free m n h (inr within) typed = scalar_typed free m n h within typed

within_typed : (ns : List ℕ) (ds es : List Entry) (env : Environment) → EntriesWithin ns ds es → AreTyped env ds
    → AreTyped env es
within_typed ns [] [] env within typed = typed
within_typed ns [] (e ∷ es) env within typed = absurd within
within_typed ns (d ∷ ds) [] env within typed = absurd within
within_typed ns (d ∷ ds) (e ∷ es) [] within typed = absurd typed
within_typed ns (d ∷ ds) (e ∷ es) (b ∷ bs) within typed = (
  meaning_typed (is_one_of ns _) d.meaning e.meaning b.held within.1 typed.0,
  within_typed ns ds es bs within.2 typed.1,
)

-- ---- outcomes

follows : (es fs : List Entry) (o : Outcome) (next : Environment → Links → Outcome) → IsWell o es
    → GoesWell next es fs → IsWell (followed o next) fs
follows es fs (Goes env l) next well goes = goes env l well
follows es fs (Waits l) next well goes = tt
follows es fs Stuck next well goes = absurd well

leaves : (es : List Entry) (count : ℕ) (o : Outcome) → IsWell o es → IsWell (left count o) (outermost count es)
leaves es count (Goes env l) well = record {
  meets = leaving_holds es env count well.meets;
  typed = types_stay.leaving es env count well.typed;
}
leaves es count (Waits l) well = tt
leaves es count Stuck well = absurd well

again : (ns : List ℕ) (ds es : List Entry) (env : Environment) → EntriesWithin ns ds (widen ns es) → IsTrueIn ds env
    → IsTrueIn (widen ns es) env
again ns ds es env within holds = record {
  meets = loops_go_on.again ns ds es env within holds.typed holds.meets;
  typed = within_typed ns ds (widen ns es) env within holds.typed;
}

begins : (ns : List ℕ) (es : List Entry) (env : Environment) → IsTrueIn es env → IsTrueIn (widen ns es) env
begins ns es env holds = again ns es es env (loops_go_on.first ns es) holds

again_well : (ns : List ℕ) (ds es : List Entry) (o : Outcome) → EntriesWithin ns ds (widen ns es) → IsWell o ds
    → IsWell o (widen ns es)
again_well ns ds es (Goes env l) within well = again ns ds es env within well
again_well ns ds es (Waits l) within well = tt
again_well ns ds es Stuck within well = absurd well

loops : (ns : List ℕ) (es : List Entry) (ends : ℕ → List Entry) (turn : ℕ → Environment → Links → Outcome) (count : ℕ)
    → ((n : ℕ) → n < count → EntriesWithin ns (ends n) (widen ns es))
    → ((n : ℕ) → n < count → GoesWell (turn n) (widen ns es) (ends n))
    → GoesWell (λ env l. turn_by_turn (λ n o. followed o (turn n)) count (Goes env l)) (widen ns es) (widen ns es)
loops ns es ends turn zero within goes env l holds = holds
loops ns es ends turn (suc n) within goes env l holds =
    let before = loops ns es ends turn n (λ k less. within k (omega (arith, less)))
    (λ k less. goes k (omega (arith, less))) env l holds in
    let whole = turn_by_turn (λ k o. followed o (turn k)) n (Goes env l) in
    follows (widen ns es) (widen ns es) whole (turn n) before
    (λ e m is. again_well ns (ends n) es (turn n e m) (within n (omega arith)) (goes n (omega arith) e m is))

pub outcomes_go_well : OutcomesGoWell
outcomes_go_well = record { following = follows; leaving = leaves; beginning = begins; looping = loops }
