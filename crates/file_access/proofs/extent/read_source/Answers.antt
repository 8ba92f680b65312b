use Rattle.file_access.proofs.FirstBytes.{front_is_read}
use Rattle.file_access.proofs.extent.read_source.Goals as goal

pub returns : goal.returns
returns g c = front_is_read (g.R.Read.remaining c.args.file) 1048577 _ _ c.new-bytes.ensures.items
    (rw (c.take-front.ensures.limit, c.take-front.ensures.inner) at c.in_ok-read_to_end.ensures.bytes)
