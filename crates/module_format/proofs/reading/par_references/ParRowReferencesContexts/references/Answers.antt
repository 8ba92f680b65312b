use Rattle.std.proofs.Common.{◌≡◌, ◌+◌, ◌*◌, length, arith}
use Rattle.std.specs.List.{flat_map}
use Rattle.module_format.specs.Contents.{par_of}
use Rattle.module_format.specs.Spelling.{channel_bytes}
use Rattle.module_format.specs.References.{par_references}
use Rattle.module_format.proofs.Loop.{ok_weaker}
use Rattle.module_format.proofs.Sizes.{par_size, channels_size}
use Rattle.module_format.proofs.reading.par_references.ParRowReferencesContexts.references.Goals as goal

pub overflow_mul-branches : goal.overflow_mul-branches
overflow_mul-branches c =
    let row = par_of c.args.self.now in
    omega (arith, par_size row, channels_size row.channels, c.len.ensures, c.args.self.now.channels.ok.0, c.requires)

pub overflow_add-branches-2 : goal.overflow_add-branches-2
overflow_add-branches-2 c =
    let row = par_of c.args.self.now in
    omega (arith, par_size row, channels_size row.channels, c.len.ensures, c.args.self.now.channels.ok.0, c.requires)

pub list_references-requires : goal.list_references-requires
list_references-requires c =
    let row = par_of c.args.self.now in
    rw c.deref.ensures.value (omega (
      arith,
      par_size row,
      channels_size row.channels,
      c.len.ensures,
      c.args.self.now.channels.ok.0,
      c.requires,
    ))

pub returns-clause-gives : goal.returns-clause-gives
unfolding par_references
returns-clause-gives c =
    let row = par_of c.args.self.now in
    let place : c.args.at + 18 + 8 * c.len.result ≡ c.args.at + 18 + length (flat_map channel_bytes row.channels)
    = omega (arith, channels_size row.channels, c.len.ensures, c.args.self.now.channels.ok.0) in
    rw (c.parameters.ensures, c.from.ensures, c.deref.ensures.value, place) at c.list_references.ensures.gives

pub returns-clause-behind : goal.returns-clause-behind
returns-clause-behind c =
    let row = par_of c.args.self.now in
    let behind = rw c.deref.ensures.value at c.list_references.ensures.behind in
    ok_weaker c.list_references.result behind
    (λ end e. omega (
      arith,
      e,
      par_size row,
      channels_size row.channels,
      c.len.ensures,
      c.args.self.now.channels.ok.0,
    ))
