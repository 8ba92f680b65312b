-- An end leaves what the others meet, and so does the end of a join.
use Rattle.std.proofs.Common.{◌≡◌, ◌≢◌, ℕ, List, Some, refl, sym, ◌∙◌}
use Rattle.std.specs.Prelude.{slice_get, slice_set}
use Rattle.module_format.specs.Contents.{Contents, Par}
use Rattle.machine_state.specs.declared.process.Channel.{Channel}
use Rattle.machine_state.specs.declared.process.Condition.TheVariants.{Ready, Sending, Ended}
use Rattle.machine_state.specs.declared.process.Task.{Task}
use Rattle.machine_state.specs.EnabledLaws.{Alternates, HasReady}
use Rattle.machine_state.specs.Holding.{nothing}
use Rattle.machine_state.specs.Joins.{closed_task}
use Rattle.machine_state.specs.World.{World, Role, Join, Queue}
use Rattle.machine_state.proofs.ChannelWaiters.{left_channel}
use Rattle.machine_state.proofs.Frame.{changes_nothing}
use Rattle.machine_state.proofs.Lines.{got_other}
use Rattle.machine_state.proofs.WhoWaits.{left_still}
use Rattle.certified_worlds.specs.Invariant.{Holds}
use Rattle.certified_worlds.proofs.Carrying.{SameEnabled, enabled_alike, enabled_as_before, ready_alike, ready_on}
use Rattle.certified_worlds.proofs.ClosedWorlds.{closed_world}
use Rattle.certified_worlds.proofs.EndedWorlds.{reduced}
use Rattle.certified_worlds.proofs.OrderlyWorlds.{OthersMeet}
use Rattle.certified_worlds.proofs.OthersStay.{nothing_meets, others_meet}

-- a process that is ready sends nothing
pub reduced_others : (m : Contents) (w : World) (h : Holds m w) (p : ℕ) (t u : Task) (roles : List Role) (queue : Queue)
    → slice_get w.tasks p ≡ Some t → t.condition ≡ Ready
    → OthersMeet m w h p (reduced w (slice_set w.tasks p u) roles queue)
reduced_others m w h p t u roles queue here ready =
    others_meet m w (reduced w (slice_set w.tasks p u) roles queue) nothing (changes_nothing nothing w.memory) h p
    (λ q role differ has. nothing_meets _)
    (λ q v differ at alternates.
    enabled_as_before w (reduced w (slice_set w.tasks p u) roles queue) q refl refl)
    (λ q v differ at alternates found. ready_on w.tasks w.channels w.links.inputs q p t u here
    (λ e sends. let no' : Ready ≡ Sending e = sym ready ∙ sends in cc) found)

-- The opener has ended, and no channel that another one has enabled is the opener's.
module _ (m : Contents) (w : World) (h : Holds m w) (o : ℕ) (role : Role) (j : Join) (par : Par) (t : Task)
    (here : slice_get w.tasks o ≡ Some t) (ended : t.condition ≡ Ended)
    (survives : (q : ℕ) (u : Task) → o ≢ q → slice_get w.tasks q ≡ Some u → Alternates u.mode u.condition
    → (k : ℕ) (c : Channel) → slice_get w.channels k ≡ Some (Some c) → c.enabled ≡ Some q → c.opener ≢ o) where
  abbrev after : World
  after = closed_world w o role j par t

  module _ (q : ℕ) (u : Task) (differ : o ≢ q) (at : slice_get w.tasks q ≡ Some u)
      (alternates : Alternates u.mode u.condition) where
    stays : (k : ℕ) (c : Channel) → slice_get w.channels k ≡ Some (Some c) → c.enabled ≡ Some q
        → slice_get after.channels k ≡ Some (Some c)
    stays k c there is = left_still o w.channels k c there (survives q u differ at alternates k c there is)

    enabled : SameEnabled w after q
    enabled = enabled_alike w after q (λ k c there is. left_channel o w.channels k c there) stays refl

    has_ready : HasReady w.tasks w.channels w.links.inputs q
        → HasReady after.tasks after.channels after.links.inputs q
    has_ready = ready_alike w.tasks after.tasks w.channels after.channels w.links.inputs q o t here
        (λ e sends. let no' : Ended ≡ Sending e = sym ended ∙ sends in cc) stays
        (λ r v other has. got_other w.tasks o r (closed_task j par t) other ∙ has)

  pub closed_others : OthersMeet m w h o after
  closed_others = others_meet m w after nothing (changes_nothing nothing w.memory) h o
      (λ q role differ has. nothing_meets _) enabled has_ready
