-- What the laws of every module say of a world that events lead to, as the invariant's proof reads it.
use Rattle.std.proofs.Common.{◌≡◌, ℕ, List, length, Option, Some, ap, ◌∙◌, subst}
use Rattle.std.specs.Prelude.{slice_get}
use Rattle.small_laws.proofs.Options.{same_some}
use Rattle.module_format.specs.Contents.{Contents}
use Rattle.module_format.specs.Keeping.{Keeps}
use Rattle.machine_state.specs.declared.event.Event.{Event}
use Rattle.machine_state.specs.declared.process.Task.{Task}
use Rattle.machine_state.specs.declared.process.Condition.TheVariants.{Ready}
use Rattle.machine_state.specs.World.{World}
use Rattle.machine_state.specs.Happens.{world_after}
use Rattle.machine_state.specs.Apart.{AllApart}
use Rattle.machine_state.specs.Waiting.{Line, AllReady, line_of, Waiters, Branches, Starters}
use Rattle.machine_state.specs.LinkLaws.{FourEachWay}
use Rattle.verifier.proofs.CalmWorlds.{AllCalm, all_are_calm}
use Rattle.machine_state.proofs.Waiting.{reached}
use Rattle.machine_state.specs.Roles.{own_in}
use Rattle.world_laws.specs.InsideMemory.{LiesInMemory}
use Rattle.world_laws.proofs.InsideMemory.{holdings_lie}
use Rattle.share_laws.specs.Opening.{HasNoEndsInside}
use Rattle.share_laws.proofs.EndsOutside.{ends_lie_outside}
use Rattle.machine_state.proofs.Waiting.{lines_are_ready, links_have_their_waiters, branches_are_counted}
use Rattle.machine_state.proofs.WhoStarts.{openers_are_starting}
use Rattle.machine_state.proofs.LinkCounts.{links_stay_four}
use Rattle.machine_state.specs.ChannelLaws.{HaveTheirWaiters, AreRecorded}
use Rattle.machine_state.proofs.ApartLaws.{Stands, all_stand, format_is_small, holdings_stay_apart}
use Rattle.machine_state.proofs.ChannelWaiters.{channels_have_their_waiters}
use Rattle.machine_state.proofs.WhoWaits.{who_waits_is_recorded}
use Rattle.machine_state.specs.EnabledLaws.{AllAlternate, EnabledIsHeld, NobodyElseReceives}
use Rattle.machine_state.proofs.WhoEnabled.{who_enabled_alternates}
use Rattle.machine_state.proofs.EnabledIsHeld.{enabled_is_held, who_enabled_holds}

pub record IsLawful (m : Contents) (w : World) : Type 0 where
  pub line : Line w.tasks w.queue
  pub waiters : Waiters w.tasks w.links
  pub four : FourEachWay w.links
  pub apart : AllApart w.roles w.channels
  pub cells : HaveTheirWaiters w.tasks w.channels
  pub recorded : AreRecorded w.tasks w.roles w.channels
  pub stands : Stands m w
  pub alternate : AllAlternate w.tasks w.channels w.links.inputs
  pub enabled : EnabledIsHeld w.roles w.channels w.links.inputs
  pub senders : NobodyElseReceives w.tasks w.channels w.links.inputs
  pub branches : Branches w.tasks w.roles
  pub starters : Starters w.tasks w.roles
  pub calm : AllCalm w.tasks
  pub sizes : length w.roles ≡ length w.tasks
  pub inside : LiesInMemory m w.roles w.memory
  pub free : (p : ℕ) → HasNoEndsInside (own_in w.roles p)

-- each law is one of machine_state, of world_laws or of share_laws
pub lawful : (m : Contents) (es : List Event) → Keeps m → IsLawful m (world_after m es)
lawful m es keeps = record {
  line = lines_are_ready m es;
  waiters = links_have_their_waiters m es;
  four = links_stay_four m es;
  apart = holdings_stay_apart m es keeps;
  cells = channels_have_their_waiters m es;
  recorded = who_waits_is_recorded m es keeps;
  stands = all_stand m (format_is_small m keeps) es;
  alternate = who_enabled_alternates m es;
  enabled = enabled_is_held m es;
  senders = (who_enabled_holds m es keeps).1;
  branches = branches_are_counted m es;
  starters = openers_are_starting m es;
  calm = all_are_calm m es;
  sizes = (reached m es).rest.size;
  inside = holdings_lie m es;
  free = λ p. ends_lie_outside m es p keeps;
}

-- the process that runs is ready
pub runs_ready : {m : Contents} (w : World) → IsLawful m w → (p : ℕ) (t : Task) → w.queue.running ≡ Some p
    → slice_get w.tasks p ≡ Some t → t.condition ≡ Ready
runs_ready w lawful p t running here =
    let first = (subst (λ (o : Option ℕ). AllReady w.tasks (line_of o w.queue.ready)) running lawful.line.ready).0 in
    ap (λ (u : Task). u.condition) (same_some (slice_get w.tasks p) t first.task here first.here) ∙ first.ready
