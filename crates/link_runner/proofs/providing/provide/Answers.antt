use Rattle.std.proofs.Common.{◌≡◌, sym, ap, false, true, ◌∙◌, None, Ok, Err, rules}
use Rattle.std.proofs.lemmas.Result.{err_from_is_err_and}
use Rattle.link_runs.proofs.Turns.{next_none}
use Rattle.link_runner.specs.declared.tally.Tally.{Tally}
use Rattle.link_runner.specs.Readers.{count_open}
use Rattle.link_runner.proofs.AskedOn.{asked_by_tally, led_on, stops_asking, supplied_there, falls}
use Rattle.link_runner.proofs.providing.provide.Goals as goal

pub supply-requires : goal.supply-requires
supply-requires g c =
    let u = c.requires in
    let led =
    c.loop-running.invariant.leads u.first u.writers u.moment u.is_shown u.reads u.none_failed u.counts in
    (search rules, (led.moment.world, led.is_shown))

pub returns-in_default-clause-provides : goal.returns-in_default-clause-provides
returns-in_default-clause-provides g c = λ first writers s shown reads none counts.
    let led = c.loop-running.invariant.leads first writers s shown reads none counts in
    let was : c.loop-running.running ≡ false = search rules in
    let nobody = sym (c.loop-running.invariant.runs led.moment.world led.is_shown) ∙ was in
    let ask =
    asked_by_tally led.moment c.loop-running.tally None led.counts (c.in_default.ensures led.moment.world
    led.is_shown) in
    record {
      moment = led.moment;
      goes = led.goes;
      is_shown = led.is_shown;
      counts = led.counts;
      runs = nobody;
      over = λ is. next_none (g.M.Machine.contents c.args.machine.now) writers led.moment nobody ask;
    }

pub returns-clause-provides : goal.returns-clause-provides
returns-clause-provides g c = λ first writers s shown reads none counts.
    let led = c.loop-running.invariant.leads first writers s shown reads none counts in
    let was : c.loop-running.running ≡ true = search rules in
    record {
      moment = led.moment;
      goes = led.goes;
      is_shown = led.is_shown;
      counts = led.counts;
      runs = sym (c.loop-running.invariant.runs led.moment.world led.is_shown) ∙ was;
      over = λ is. absurd (cc);
    }

pub returns-in_err-supply-clause-provides : goal.returns-in_err-supply-clause-provides
returns-in_err-supply-clause-provides g c = λ first writers s shown reads none counts.
    let p = err_from_is_err_and c.from_residual.result c.from_residual.ensures.1 in
    let asking = c.loop-running.invariant in
    let led = asking.leads first writers s shown reads none counts in
    let halt = c.in_err-supply.field-0.0 in
    let shown_now = g.M.Machine.shows c.supply.new.machine in
    let stopped = g.M.Machine.stops c.supply.new.machine in
    rw (p.1, p.2) (stops_asking led c.supply.new.readers c.supply.new.tally shown_now stopped c.in-Some.link halt
    (supplied_there led c.supply.new.readers c.supply.new.tally c.in-Some.link (Err halt) shown_now stopped asking.same
    asking.runs (search rules) c.in-Some.ensures c.in_err-supply.ensures.supplies))

pub loop-running-preserved : goal.loop-running-preserved
loop-running-preserved g c =
    let asking = c.loop-running.invariant in
    record {
      same = c.in_ok-supply.ensures.contents ∙ asking.same;
      same_limit = c.in_ok-supply.ensures.limit ∙ asking.same_limit;
      runs = c.running-running-in-loop-running.ensures;
      leads = λ first writers s shown reads none counts.
          let led = asking.leads first writers s shown reads none counts in
          led_on led c.supply.new.readers c.supply.new.tally c.supply.new.machine (supplied_there led
          c.supply.new.readers c.supply.new.tally c.in-Some.link (Ok tt) (g.M.Machine.shows c.supply.new.machine)
          (g.M.Machine.stops c.supply.new.machine) asking.same asking.runs (search rules) c.in-Some.ensures
          c.in_ok-supply.ensures.supplies);
    }

pub loop-running-smaller : goal.loop-running-smaller
loop-running-smaller g c =
    let u = c.requires in
    let asking = c.loop-running.invariant in
    let led = asking.leads u.first u.writers u.moment u.is_shown u.reads u.none_failed u.counts in
    let was : c.loop-running.running ≡ false = search rules in
    let supplied = supplied_there led c.supply.new.readers c.supply.new.tally c.in-Some.link (Ok tt)
    (g.M.Machine.shows c.supply.new.machine) (g.M.Machine.stops c.supply.new.machine) asking.same asking.runs was
    c.in-Some.ensures c.in_ok-supply.ensures.supplies in
    falls g.M.Machine.awaits led.moment.world supplied.moment.world c.loop-running.tally c.supply.new.tally _
    c.loop-running.machine c.supply.new.machine c.loop-running.running c.running-running-in-loop-running.result was
    (g.met.M.Machine.awaits_so c.loop-running.machine led.moment.world led.is_shown)
    (g.met.M.Machine.awaits_so c.supply.new.machine supplied.moment.world supplied.is_shown)
    (ap (λ (t : Tally). count_open t.ended) led.counts)
    (c.running-running-in-loop-running.ensures supplied.moment.world supplied.is_shown) supplied.closer
