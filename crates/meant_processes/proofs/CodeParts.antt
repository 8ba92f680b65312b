-- The parts of code that is put together.
use Rattle.std.proofs.Common.{◌≡◌, ℕ, List, [], ◌∷◌, ◌++◌, Option, Some, None, ap, refl, sym}
use Rattle.std.specs.List.{AllByRecursion}
use Rattle.code_pieces.specs.Pieces.{Code, Piece, before, closed_by, then_code, written}

-- pieces before some code, where they have any
pub record Behind (ps : List Piece) (o : Option Code) (c : Code) : Type 0 where
  pub rest : Code
  pub is : o ≡ Some rest
  pub pieces : c.pieces ≡ ps ++ rest.pieces

pub before_is : (ps : List Piece) (o : Option Code) (c : Code) → before ps o ≡ Some c → Behind ps o c
before_is ps None c is = absurd (cc is)
before_is ps (Some d) c is =
    let same : record { pieces = ps ++ d.pieces; labels = d.labels } ≡ c = cc is in
    record { rest = d; is = refl; pieces = sym (ap (λ (x : Code). x.pieces) same) }

-- pieces behind
pub record Closed (ps : List Piece) (o : Option Code) (c : Code) : Type 0 where
  pub first : Code
  pub is : o ≡ Some first
  pub pieces : c.pieces ≡ first.pieces ++ ps

pub closed_is : (ps : List Piece) (o : Option Code) (c : Code) → closed_by ps o ≡ Some c → Closed ps o c
closed_is ps None c is = absurd (cc is)
closed_is ps (Some d) c is =
    let same : record { pieces = d.pieces ++ ps; labels = d.labels } ≡ c = cc is in
    record { first = d; is = refl; pieces = sym (ap (λ (x : Code). x.pieces) same) }

-- code and what follows
pub record Followed (o : Option Code) (next : ℕ → Option Code) (c : Code) : Type 0 where
  pub first : Code
  pub last : Code
  pub first_is : o ≡ Some first
  pub last_is : next first.labels ≡ Some last
  pub pieces : c.pieces ≡ first.pieces ++ last.pieces

pub then_is : (o : Option Code) (next : ℕ → Option Code) (c : Code) → then_code o next ≡ Some c → Followed o next c
then_is None next c is = absurd (cc is)
then_is (Some d) next c is =
    let b = before_is d.pieces (next d.labels) c is in
    record { first = d; last = b.rest; first_is = refl; last_is = b.is; pieces = b.pieces }

pub written_is : (ps : List Piece) (label : ℕ) (c : Code) → written ps label ≡ Some c → c.pieces ≡ ps
written_is ps label c is =
    let same : record { pieces = ps; labels = label } ≡ c = cc is in sym (ap (λ (x : Code). x.pieces) same)
