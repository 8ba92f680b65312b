use Rattle.std.proofs.Common.{◌≡◌, ap, refl, ◌∙◌, Ok, Some}
use Rattle.link_runs.specs.FirstInFirstOut.{RunMoment}
use Rattle.link_runner.specs.declared.device.Failed.{Failed}
use Rattle.link_runner.specs.declared.tally.Counts.{Counts}
use Rattle.link_runner.specs.declared.tally.Ended.{Ended}
use Rattle.link_runner.specs.declared.tally.Tally.{Tally}
use Rattle.link_runner.specs.Counting.{counts_of, tally_of, with_count, with_flag}
use Rattle.link_runner.specs.Readers.{Asks}
use Rattle.link_runner.proofs.OneByte.{byte_given, end_given, read_failed, supplies_byte}
use Rattle.link_runner.proofs.OneByte.{supplies_nothing, supplies_end}
use Rattle.link_runner.proofs.supplying.supply.Given as given
use Rattle.link_runner.proofs.supplying.supply.Goals as goal
use Rattle.link_runner.proofs.supplying.supply.Goals.{After-arrive}

pub returns-in-Err-clause-supplies : goal.returns-in-Err-clause-supplies
returns-in-Err-clause-supplies g c = λ first writers s shown nobody ask reads none counts. (
  refl,
  read_failed c.ask.new.readers nobody ask reads none c.in-Err.ensures.elsewhere _ c.in-Err.ensures.called,
)

module _ (g : given.Over) (c : After-arrive g) where
  -- the reader gave the byte
  gave : Asks g.R.LinkReader.left g.R.LinkReader.failed {E = Failed} c.args.link (Ok (Some c.in-Ok-Some.byte))
      c.args.readers.now c.ask.new.readers
  gave = rw c.in-Ok-Some.field-0-is at c.in-Ok-Some.ensures

  -- and it is counted
  counted : (s : RunMoment) → c.args.tally.now ≡ tally_of s
      → record c.args.tally.now { read = c.add.new.self }
      ≡ record (tally_of s) { read = with_count c.args.link 1 (counts_of s.read) }
  counted s counts =
      ap (λ (read : Counts). record c.args.tally.now { read = read }) c.add.ensures
      ∙ ap (λ (t : Tally). record t { read = with_count c.args.link 1 t.read }) counts

pub returns-in-Ok-clause-supplies : goal.returns-in-Ok-clause-supplies
returns-in-Ok-clause-supplies g c = λ first writers s shown nobody ask reads none counts.
    let at = (goal.at.returns-in-Ok-clause-supplies g c).After-arrive in
    let asks = gave g at in
    supplies_byte c.ask.new.readers nobody ask reads none asks.elsewhere c.in-Ok-Some.byte
    (g.M.Machine.limit c.args.machine.now) _ (g.M.Machine.shows c.arrive.new.self)
    (byte_given c.ask.new.readers nobody ask reads none asks.elsewhere _ c.is_in_range.ensures asks.called)
    (g.met.M.Machine.reached c.args.machine.now s.world shown) (counted g at s counts)
    (c.in-Ok.ensures.takes s.world shown)

pub returns-in-Err-arrive-clause-supplies : goal.returns-in-Err-arrive-clause-supplies
returns-in-Err-arrive-clause-supplies g c = λ first writers s shown nobody ask reads none counts.
    let at = (goal.at.returns-in-Err-arrive-clause-supplies g c).After-arrive in
    let asks = gave g at in
    supplies_nothing c.ask.new.readers nobody ask reads none asks.elsewhere c.in-Ok-Some.byte _
    (λ w. g.M.Machine.stops c.arrive.new.self w c.in-Err-arrive.stop)
    (byte_given c.ask.new.readers nobody ask reads none asks.elsewhere _ c.is_in_range.ensures asks.called)
    (counted g at s counts) (c.in-Err-arrive.ensures.takes s.world shown)

pub returns-in-Ok-None-clause-supplies : goal.returns-in-Ok-None-clause-supplies
returns-in-Ok-None-clause-supplies g c = λ first writers s shown nobody ask reads none counts.
    let asks = rw c.in-Ok-None.field-0-is at c.in-Ok-None.ensures in
    supplies_end c.ask.new.readers nobody ask reads none asks.elsewhere _ (g.M.Machine.shows c.args.machine.now)
    (end_given c.ask.new.readers nobody ask reads none asks.elsewhere asks.called)
    (ap (λ (ended : Ended). record c.args.tally.now { ended = ended }) c.add-in-Ok-None.ensures
    ∙ ap (λ (t : Tally). record t { ended = with_flag c.args.link t.ended }) counts)
    shown
