-- What code makes a process do, one after the other.
use Rattle.std.proofs.Common.{ℕ, zero, suc, ◌<◌, arith}
use Rattle.std.specs.Prelude.{IsTrue}
use Rattle.scalar_ranges.specs.Environments.{Environment}
use Rattle.program_uses.specs.Indices.{turn_by_turn}
use Rattle.program_meaning.specs.Doing.{Doing, Leaves, doing_then, AllWell}
use Rattle.placed_code.specs.LaidCode.{LaidCode}
use Rattle.placed_code.specs.Points as points
use Rattle.placed_code.specs.Points.{Point, GoesTo}
use Rattle.placed_code.specs.Behaves.{Behaves, over, any, halts, steps, asks, sends, Passes, BehavioursCompose}
use Rattle.placed_code.proofs.PiecesGo.{straight_goes}

module _ (c : LaidCode) where
  pub behaves_then : {End Last : Environment → Point → Type 0} {p : Point} {t : Doing} (Holds : Environment → Type 0)
      (f : Environment → Doing) → Behaves c End p t → AllWell Holds t
      → ((env : Environment) (q : Point) → End env q → Holds env → Behaves c Last q (f env))
      → Behaves c Last p (doing_then t f)
  behaves_then Holds f (over e) well after = after _ _ e well
  behaves_then Holds f any well after = any
  behaves_then Holds f (halts x) well after = halts x
  behaves_then Holds f (steps x rest) well after = steps x (behaves_then Holds f rest well after)
  behaves_then Holds f (asks x rest) well after =
      asks x (λ bytes q is are came. behaves_then Holds f (rest bytes q is are came) (well bytes is) after)
  behaves_then Holds f (sends x rest) well after =
      sends x (λ q went. behaves_then Holds f (rest q went) well after)

  pub followed : {End Last : Environment → Point → Type 0} {p : Point} {t : Doing} (f : Environment → Doing)
      → Behaves c End p t → ((env : Environment) (q : Point) → End env q → Behaves c Last q (f env))
      → Behaves c Last p (doing_then t f)
  followed f (over e) after = after _ _ e
  followed f any after = any
  followed f (halts x) after = halts x
  followed f (steps x rest) after = steps x (followed f rest after)
  followed f (asks x rest) after = asks x (λ bytes q is are came. followed f (rest bytes q is are came) after)
  followed f (sends x rest) after = sends x (λ q went. followed f (rest q went) after)

  pub turns_behave : {End : ℕ → Environment → Point → Type 0} (turn : ℕ → Environment → Doing) (n : ℕ) {p : Point}
      (env : Environment) → End 0 env p
      → ((k : ℕ) (e : Environment) (q : Point) → k < n → End k e q → Behaves c (End (suc k)) q (turn k e))
      → Behaves c (End n) p (turn_by_turn (λ k t. doing_then t (turn k)) n (Leaves env))
  turns_behave turn zero env first each = over first
  turns_behave turn (suc n) env first each =
      followed (turn n) (turns_behave turn n env first (λ k e q less. each k e q (omega (arith, less))))
      (λ e q at. each n e q (omega arith) at)

  pub steps_behave : {End : Environment → Point → Type 0} {p q : Point} {t : Doing} → GoesTo c p q → Behaves c End q t
      → Behaves c End p t
  steps_behave points.there b = b
  steps_behave (points.steps x rest) b = steps x (steps_behave rest b)

pub behaviours_compose : BehavioursCompose
behaviours_compose = record {
  following = λ c end last holds p t f behaves well after.
      behaves_then c {End = Passes end} {Last = Passes last} (λ env. IsTrue (holds env)) f behaves well after;
  joining = λ c end last p t f behaves after. followed c {End = Passes end} {Last = Passes last} f behaves after;
  turns = λ c end turn n p env first each. turns_behave c {End = λ k. Passes (end k)} turn n env first each;
  steps = λ c end p q t goes behaves. steps_behave c goes behaves;
  straight = λ c end at to ps h k t lie leads behaves. steps_behave c (straight_goes c lie leads) behaves;
}
