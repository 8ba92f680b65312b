-- The pieces that those of the program are.
use Rattle.std.specs.Prelude.{List, map}
use Rattle.code_pieces.specs.declared.piece.ParBranch as code_branch
use Rattle.code_pieces.specs.declared.piece.Par as code_par
use Rattle.code_pieces.specs.declared.piece.Piece as code_piece
use Rattle.code_pieces.specs.declared.piece.Piece.TheVariants as pieces
use Rattle.code_pieces.specs.Pars as pars
use Rattle.code_pieces.specs.Pieces.{Piece, Direct, Jump, JumpUnless, LoopBack, Distance, StartBranch, Select}
use Rattle.code_pieces.specs.Pieces.{TableAddress, Row, Place, Within, Par}

abbrev pub branch_of : code_branch.ParBranch → pars.ParBranch
branch_of b = record {
  entry = b.entry;
  depth = b.depth;
  writes = b.writes.items;
  reads = b.reads.items;
  ends = b.ends.items;
}

abbrev pub par_of : code_par.Par → pars.Par
par_of p = record {
  opener = p.opener;
  successor = p.successor;
  channels = p.channels.items;
  branches = map branch_of p.branches.items;
}

abbrev pub piece_of : code_piece.Piece → Piece
piece_of (pieces.Direct fun operand) = Direct fun operand
piece_of (pieces.Jump to) = Jump to
piece_of (pieces.JumpUnless to) = JumpUnless to
piece_of (pieces.LoopBack head behind) = LoopBack head behind
piece_of (pieces.Distance from to) = Distance from to
piece_of (pieces.StartBranch entry successor) = StartBranch entry successor
piece_of (pieces.Select targets) = Select targets.items
piece_of (pieces.TableAddress values) = TableAddress values.value.items
piece_of (pieces.Row label entries) = Row label entries.items
piece_of (pieces.Place label) = Place label
piece_of (pieces.Within workspace) = Within workspace
piece_of (pieces.Par par) = Par (par_of par)

abbrev pub pieces_of : List code_piece.Piece → List Piece
pieces_of ps = map piece_of ps
