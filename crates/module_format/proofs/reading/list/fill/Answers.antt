use Rattle.std.proofs.Common.{[], ◌∷◌, map, refl, sym, ◌∙◌}
use Rattle.std.proofs.lemmas.List.{map-append}
use Rattle.module_format.specs.Reading.{list_at}
use Rattle.module_format.proofs.Loop.{begins, goes_on, is_done, taken, stops}
use Rattle.module_format.proofs.TakingLaws.{took_after, took_all, when_ok, is_unfailed}
use Rattle.module_format.proofs.OrderLaws.{behind_last}
use Rattle.module_format.proofs.reading.list.fill.Goals as goal

pub loop-init : goal.loop-init
loop-init g c =
    let R = g.R.Reader.walk in
    let from = c.args.from.now in
    let empty = c.reserve.ensures ∙ c.requires in
    record {
      size = refl;
      unfailed = is_unfailed from.failure (sym c.has_failed.ensures ∙ c.if-has_failed.false);
      fixed = refl;
      gives = rw empty (begins (R.listing.reads (R.context c.args.reader.now) from.size) R.listing.behind
          c.args.count (R.state c.args.reader.now) from.rest.now);
      last = rw empty refl;
    }

pub returns-then-has_failed-2-clause-takes : goal.returns-then-has_failed-2-clause-takes
returns-then-has_failed-2-clause-takes g c =
    let R = g.R.Reader.walk in
    let so_far = c.loop.invariant in
    let took = rw (so_far.fixed, so_far.size) at c.read-item.ensures.takes.took in
    let unfailed = is_unfailed _ (sym c.has_failed.ensures ∙ c.if-has_failed.false) in
    let failed = sym c.has_failed-in-loop.ensures ∙ c.if-has_failed-2.true in
    let xs = map R.listing.view (g.L.Items.items c.loop.items) in
    record {
      same = c.read-item.ensures.takes.same ∙ so_far.size;
      took = took_after _ _ _ xs _ _ unfailed
          (stops _ R.listing.behind _ _ xs _ _ _ _ _ _ xs _ c.loop-test.true so_far.unfailed failed took so_far.gives);
    }

pub loop-preserved : goal.loop-preserved
loop-preserved g c =
    let R = g.R.Reader.walk in
    let from = c.args.from.now in
    let left = c.read-item.new.from in
    let item = R.listing.reads (R.context c.args.reader.now) from.size in
    let so_far = c.loop.invariant in
    let took = rw (so_far.fixed, so_far.size) at c.read-item.ensures.takes.took in
    let still = is_unfailed left.failure (sym c.has_failed-in-loop.ensures ∙ c.if-has_failed-2.false) in
    let read = map R.listing.view (g.L.Items.items c.loop.items) in
    let x = R.listing.view c.read-item.result in
    let one =
    taken item R.listing.behind c.loop.from.failure
    (R.state c.loop.reader) c.loop.from.rest.now x left.failure left.rest.now so_far.unfailed still took in
    let more = map-append R.listing.view (g.L.Items.items c.loop.items) (c.read-item.result ∷ []) in
    let added = when_ok c.add.result (sym c.is_err-in-loop.ensures.value ∙ c.if-is_err-2.false) c.add.ensures in
    let next = c.read-item.ensures.next still in
    record {
      size = c.read-item.ensures.takes.same ∙ so_far.size;
      unfailed = still;
      fixed = c.read-item.ensures.same ∙ so_far.fixed;
      gives = rw (added, more, next) (goes_on item R.listing.behind read c.args.count c.loop.counter
          (R.state c.loop.reader) c.loop.from.rest.now x left.rest.now
          (list_at item R.listing.behind c.args.count
          (R.state c.args.reader.now) from.rest.now) c.loop-test.true one so_far.gives);
      last = rw (added, more, next, so_far.last, behind_last R.listing.behind (R.state c.args.reader.now) read x) refl;
    }

pub returns-clause-takes : goal.returns-clause-takes
returns-clause-takes g c =
    let R = g.R.Reader.walk in
    let from = c.args.from.now in
    let so_far = c.loop.invariant in
    let item = R.listing.reads (R.context c.args.reader.now) from.size in
    let unfailed = is_unfailed from.failure (sym c.has_failed.ensures ∙ c.if-has_failed.false) in
    let xs = map R.listing.view (g.L.Items.items c.loop.items) in
    record {
      same = so_far.size;
      took = took_after _ from.failure from.rest.now xs c.loop.from.failure c.loop.from.rest.now unfailed
          (took_all xs c.loop.from.failure c.loop.from.rest.now so_far.unfailed
          (is_done item R.listing.behind xs c.args.count c.loop.counter (R.state c.loop.reader) c.loop.from.rest.now
          (list_at item R.listing.behind c.args.count
          (R.state c.args.reader.now) from.rest.now) c.loop-test.false so_far.gives));
    }
