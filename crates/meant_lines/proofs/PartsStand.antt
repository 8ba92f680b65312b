-- Code stores within the words that it takes, and its parts stand on its ground.
use Rattle.std.proofs.Common.{◌≡◌, ℕ, ◌≤◌, ℤ, pos, List, [], ◌∷◌, ◌++◌, refl, sym, ap, subst, ◌∙◌, append_assoc, arith}
use Rattle.prefix_decoder.specs.declared.function.Fun.{Fun}
use Rattle.prefix_decoder.specs.declared.function.Fun.TheVariants as fun
use Rattle.code_pieces.specs.Laying.{word_above, words_named, words_taken}
use Rattle.code_pieces.specs.Pieces.{Piece, Direct, Jump, JumpUnless, LoopBack, Distance, StartBranch, Select}
use Rattle.code_pieces.specs.Pieces.{TableAddress, Row, Place, Within, Par}
use Rattle.code_pieces.proofs.AllOfPieces.{all_first, all_last}
use Rattle.placed_code.specs.TablesInMemory.{ReadsTable}
use Rattle.meant_lines.specs.Carrying.{Ground}
use Rattle.meant_lines.specs.Pushing.{StoresWithin, AllStoreWithin, StandsOn, AllStandOn, CodeStoresWithin, PartsStand}

-- ---- the whole

piece_within : (words : ℕ) (f : Fun) (n : ℤ) → word_above f n ≤ words → StoresWithin words (Direct f n)
piece_within words fun.StoreLocal (pos word) less = omega (arith, less)
piece_within words f n less = tt

-- words that are named are below those that are taken
all_within : (words : ℕ) (ps : List Piece) → words_named ps ≤ words → AllStoreWithin words ps
all_within words [] less = tt
all_within words (Direct f n ∷ ps) less =
    (piece_within words f n (omega (arith, less)), all_within words ps (omega (arith, less)))
all_within words (Within workspace ∷ ps) less = (tt, all_within words ps (omega (arith, less)))
all_within words (Jump to ∷ ps) less = (tt, all_within words ps less)
all_within words (JumpUnless to ∷ ps) less = (tt, all_within words ps less)
all_within words (LoopBack head behind ∷ ps) less = (tt, all_within words ps less)
all_within words (Distance from to ∷ ps) less = (tt, all_within words ps less)
all_within words (StartBranch entry successor ∷ ps) less = (tt, all_within words ps less)
all_within words (Select targets ∷ ps) less = (tt, all_within words ps less)
all_within words (TableAddress values ∷ ps) less = (tt, all_within words ps less)
all_within words (Row label entries ∷ ps) less = (tt, all_within words ps less)
all_within words (Place label ∷ ps) less = (tt, all_within words ps less)
all_within words (Par par ∷ ps) less = (tt, all_within words ps less)

pub code_stores_within : CodeStoresWithin
code_stores_within ps = all_within (words_taken ps) ps (omega arith)

-- ---- its parts

piece_stands : (g : Ground) (p : Piece) → StoresWithin g.words p
    → ((values : List ℤ) → p ≡ TableAddress values → ReadsTable g.pieces values) → StandsOn g.words g.pieces p
piece_stands g (Direct fun.StoreLocal (pos word)) is reads = is
piece_stands g (Direct f e) is reads = tt
piece_stands g (TableAddress values) is reads = reads values refl
piece_stands g p is reads = tt

all_stand : (g : Ground) (before ps rest : List Piece) → g.pieces ≡ before ++ (ps ++ rest)
    → AllStoreWithin g.words ps → AllStandOn g ps
all_stand g before [] rest is stores = tt
all_stand g before (p ∷ ps) rest is stores = (
  piece_stands g p stores.0 (λ values same. record {
    before = before;
    rest = ps ++ rest;
    whole = is ∙ ap (λ (q : Piece). before ++ q ∷ (ps ++ rest)) same;
  }),
  all_stand g (before ++ p ∷ []) ps rest (is ∙ sym (append_assoc before (p ∷ []) (ps ++ rest))) stores.1,
)

pub parts_stand : PartsStand
parts_stand g before ps rest stores is =
    all_stand g before ps rest is
    (all_first (StoresWithin g.words) ps rest
    (all_last (StoresWithin g.words) before (ps ++ rest) (subst (AllStoreWithin g.words) is stores)))
