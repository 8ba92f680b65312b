use Rattle.std.proofs.Common.{◌≡◌, ◌-◌, map}
use Rattle.std.specs.Prelude.{None}
use Rattle.module_format.specs.Order.{behind_all}
use Rattle.module_format.specs.Reading.{list_at}
use Rattle.module_format.proofs.Loop.{with_front}
use Rattle.module_format.proofs.reading.list.fill.Given as goal

abbrev pub invariant-loop : goal.invariant-loop
invariant-loop g l =
    let R = g.R.Reader.walk in
    let item = R.listing.reads (R.context l.fn.reader) l.fn.from.size in
    let read = map R.listing.view (g.L.Items.items l.items) in
    record {
      size : l.from.size ≡ l.fn.from.size;
      unfailed : l.from.failure ≡ None;
      fixed : R.context l.reader ≡ R.context l.fn.reader;
      gives : with_front read (list_at item R.listing.behind (l.count - l.counter) (R.state l.reader) l.from.rest.now)
          ≡ list_at item R.listing.behind l.count (R.state l.fn.reader) l.fn.from.rest.now;
      last : R.state l.reader ≡ behind_all R.listing.behind (R.state l.fn.reader) read;
    }
