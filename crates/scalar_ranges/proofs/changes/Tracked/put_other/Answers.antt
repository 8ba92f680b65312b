use Rattle.std.proofs.Common.{◌≡◌, true, Some, ap, sym, subst, refl, ◌∙◌, rules}
use Rattle.scalar_ranges.specs.Changes.{changed_to}
use Rattle.scalar_ranges.specs.ChangeViews.{meaning_of}
use Rattle.scalar_ranges.specs.Moves.{with_meaning}
use Rattle.scalar_ranges.specs.TrackedViews.{known_by}
use Rattle.scalar_ranges.proofs.Fitting.{put_known}
use Rattle.scalar_ranges.proofs.Named.{none_changed}
use Rattle.scalar_ranges.proofs.Staying.{put_apart}
use Rattle.scalar_ranges.specs.Changes.{with_new, Tracked}
use Rattle.scalar_ranges.specs.Deferring.{AreApart}
use Rattle.scalar_ranges.specs.TrackedViews.{tracked_of}
use Rattle.scalar_ranges.proofs.Widening.{still}
use Rattle.scalar_ranges.proofs.changes.Tracked.put_other.Goals as goal

pub returns-then-not-is_same-clause-known : goal.returns-then-not-is_same-clause-known
returns-then-not-is_same-clause-known c =
    put_known c.args.self.now c.put.new.self c.args.number (meaning_of c.args.meaning) c.put.ensures

pub returns-in_default-clause-known : goal.returns-in_default-clause-known
returns-in_default-clause-known c =
    let k = known_by c.args.self.now in
    let m = meaning_of c.args.meaning in
    let same : changed_to m c.args.number k.entries ≡ k.entries =
    none_changed (with_meaning (λ j. m)) c.args.number k.entries (sym c.in_default.ensures) in
    λ i. record { entries = sym same i; blocks = k.blocks }

pub returns-else-not-is_same-clause-known : goal.returns-else-not-is_same-clause-known
returns-else-not-is_same-clause-known c =
    let k = known_by c.args.self.now in
    let m = meaning_of c.args.meaning in
    let alike : c.is_same.result ≡ true = search rules in
    let same : changed_to m c.args.number k.entries ≡ k.entries =
    still (λ j. m) c.args.number m k.entries (sym c.in-Some.ensures ∙ ap Some (c.is_same.ensures alike)) refl in
    λ i. record { entries = sym same i; blocks = k.blocks }

pub returns-then-not-is_same-clause-apart : goal.returns-then-not-is_same-clause-apart
returns-then-not-is_same-clause-apart c = λ p a none apart.
    let t = tracked_of c.args.self.now in
    subst (λ (k : Tracked). AreApart p a k.blocks) (sym c.put.ensures)
    (put_apart p (with_new (meaning_of c.args.meaning)) a c.args.number t.slots t.blocks none apart)
