use Rattle.std.proofs.Common.{◌++◌, ◌∙◌, ℕ, List, ap, append_assoc}
use Rattle.std.proofs.lemmas.List.{map-id}
use Rattle.module_format.specs.Spelling.{header_bytes}
use Rattle.module_format.proofs.WritingLaws.{piece, ◌>>◌}
use Rattle.module_format.proofs.writing.put_header.Goals as goal

pub returns : goal.returns
unfolding header_bytes
returns c =
    let lengths = rw (map-id c.args.tables.now.lengths) at c.put_all.ensures in
    let whole = (piece _ _ c.put_sizes.ensures >> piece _ _ lengths >> piece _ _ c.put_counts.ensures).wrote in
    let old = c.args.out.now.bytes.items in
    λ ok. ((whole ok).0, (whole ok).1 ∙ ap (λ (bytes : List ℕ). old ++ bytes) (simp append_assoc))
