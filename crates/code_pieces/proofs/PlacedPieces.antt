-- Labels that pieces name and place.
use Rattle.std.proofs.Common.{◌≡◌, ◌<◌, ◌≤◌, ℕ, ◌+◌, List, [], ◌∷◌, length, replicate, get_or, set, Option, Some, None}
use Rattle.std.proofs.Common.{refl, sym, ap, ◌∙◌, arith, subst, inl, inr}
use Rattle.std.specs.Prelude.{IsSome}
use Rattle.std.proofs.lemmas.List.{get_or-set_same, get_or-set_other}
use Rattle.std.proofs.lemmas.Bool.Decides.{eqb_tells}
use Rattle.module_builder.specs.Drafts.{Code}
use Rattle.code_pieces.specs.Pieces.{Piece, Direct, Jump, JumpUnless, LoopBack, Distance, StartBranch, Select}
use Rattle.code_pieces.specs.Pieces.{TableAddress, Row, Place, Within, Par}
use Rattle.code_pieces.specs.Placing.{label_in}
use Rattle.code_pieces.specs.WellFormed.{labels_named, AreBelow, AreNamed, IsPlacedIn, AreWellFormed}
use Rattle.code_pieces.specs.Placed.{IsThere, HavePlaced}
use Rattle.code_pieces.proofs.PlacedLabels.{free, placed_before, placed_now}

-- ---- names

below_more : (m n : ℕ) → m ≤ n → (ls : List ℕ) → AreBelow m ls → AreBelow n ls
below_more m n h [] below = tt
below_more m n h (l ∷ ls) below = (omega (arith, below.0), below_more m n h ls below.1)

-- labels that are below a count are below a greater one
pub named_more : (m n : ℕ) → m ≤ n → (ps : List Piece) → AreNamed m ps → AreNamed n ps
named_more m n h [] named = tt
named_more m n h (p ∷ ps) named = (below_more m n h (labels_named p) named.0, named_more m n h ps named.1)

-- the label that a piece places is one that it names
pub label_named : (n l : ℕ) (p : Piece) → label_in p ≡ Some l → AreBelow n (labels_named p) → l < n
label_named n l (Row m entries) e below =
    let same : m ≡ l = cc in
    subst (λ (k : ℕ). k < n) same below.0
label_named n l (Place m) e below =
    let same : m ≡ l = cc in
    subst (λ (k : ℕ). k < n) same below.0
label_named n l (Direct f k) e below = absurd (cc)
label_named n l (Jump to) e below = absurd (cc)
label_named n l (JumpUnless to) e below = absurd (cc)
label_named n l (LoopBack head behind) e below = absurd (cc)
label_named n l (Distance from to) e below = absurd (cc)
label_named n l (StartBranch entry successor) e below = absurd (cc)
label_named n l (Select targets) e below = absurd (cc)
label_named n l (TableAddress values) e below = absurd (cc)
label_named n l (Within workspace) e below = absurd (cc)
label_named n l (Par par) e below = absurd (cc)

placed_below : (n l : ℕ) (ps : List Piece) → AreNamed n ps → IsPlacedIn l ps → l < n
placed_below n l [] named there = absurd there
placed_below n l (p ∷ ps) named there = elim there [
  | inl here ↦ label_named n l p here named.0
  | inr behind ↦ placed_below n l ps named.1 behind
]

-- ---- what is placed

pub nothing_placed : (code : Code) → HavePlaced code [] code
nothing_placed code = record { kept = λ l h. h; placed = λ l h. absurd h; only = λ l h. inl h }

-- a piece, and then those that are left
pub then_placed : (old mid new : Code) (p : Piece) (left : List Piece) → HavePlaced old (p ∷ []) mid
    → HavePlaced mid left new → HavePlaced old (p ∷ left) new
then_placed old mid new p left first rest = record {
  kept = λ l h. rest.kept l (first.kept l h);
  placed = λ l h. elim h [
    | inl here ↦ rest.kept l (first.placed l (inl here))
    | inr behind ↦ rest.placed l behind
  ];
  only = λ l h. elim (rest.only l h) [
    | inl there ↦ elim (first.only l there) [
      | inl before ↦ inl before
      | inr now ↦ elim now [ inl here ↦ inr (inl here) | inr none ↦ absurd none ]
    ]
    | inr behind ↦ inr (inr behind)
  ];
}

-- the label was placed before
pub there_before : (code : Code) (l : ℕ) → IsThere code l → HavePlaced code (Place l ∷ []) code
there_before code l there = record {
  kept = λ k h. h;
  placed = λ k h. elim h [
    | inl here ↦
        let same : l ≡ k = cc in
        subst (IsThere code) same there
    | inr none ↦ absurd none
  ];
  only = λ k h. inl h;
}

is_some : {X : Type 0} (o : Option X) (x : X) → o ≡ Some x → IsSome o
is_some (Some y) x e = cc
is_some None x e = cc

-- it is placed now
pub there_now : (code : Code) (l n : ℕ) → l < length code.labels
    → HavePlaced code (Place l ∷ []) (record { items = code.items; labels = set code.labels l (Some n) })
there_now code l n made =
    let targets = set code.labels l (Some n) in
    let here : IsSome (get_or targets l None) =
    is_some (get_or targets l None) n (get_or-set_same code.labels l (Some n) None made) in
    record {
      kept = λ k h. elim (eqb_tells l k) [
        | inl same ↦ subst (λ (j : ℕ). IsSome (get_or targets j None)) same.1 here
        | inr other ↦
            subst (λ (o : Option ℕ). IsSome o)
            (sym (get_or-set_other code.labels l k (Some n) None (λ e. other.1 (sym e)))) h
      ];
      placed = λ k h. elim h [
        | inl is ↦
            let same : l ≡ k = cc in
            subst (λ (j : ℕ). IsSome (get_or targets j None)) same here
        | inr none ↦ absurd none
      ];
      only = λ k h. elim (eqb_tells l k) [
        | inl same ↦ inr (inl (ap Some same.1))
        | inr other ↦
            inl (subst (λ (o : Option ℕ). IsSome o)
            (get_or-set_other code.labels l k (Some n) None (λ e. other.1 (sym e))) h)
      ];
    }

-- a piece that has a label places it
pub label_there : (p : Piece) (l : ℕ) (old new : Code) → label_in p ≡ Some l → HavePlaced old (Place l ∷ []) new
    → HavePlaced old (p ∷ []) new
label_there p l old new e h = record {
  kept = h.kept;
  placed = λ k there. elim there [
    | inl here ↦ h.placed k (inl (sym e ∙ here))
    | inr none ↦ absurd none
  ];
  only = λ k there. elim (h.only k there) [
    | inl before ↦ inl before
    | inr now ↦ elim now [ inl here ↦ inr (inl (e ∙ here)) | inr none ↦ absurd none ]
  ];
}

-- a piece that has none leaves labels as they are
pub no_label_there : (p : Piece) (old new : Code) → label_in p ≡ None → new.labels ≡ old.labels
    → HavePlaced old (p ∷ []) new
no_label_there p old new e same = record {
  kept = λ k h. subst (λ (ls : List (Option ℕ)). IsSome (get_or ls k None)) (sym same) h;
  placed = λ k there. elim there [ inl here ↦ absurd (cc) | inr none ↦ absurd none ];
  only = λ k h. inl (subst (λ (ls : List (Option ℕ)). IsSome (get_or ls k None)) same h);
}

-- ---- the whole

none_there : (o : Option ℕ) → o ≡ None → IsSome o → ⊥
none_there (Some n) e there = cc
none_there None e there = cc

-- the last label is placed by no piece
pub end_is_free : (start laid : Code) (labels : ℕ) (ps : List Piece) → start.labels ≡ replicate (labels + 1) None
    → HavePlaced start ps laid → AreNamed labels ps → IsThere laid labels → ⊥
end_is_free start laid labels ps made placed named there = elim (placed.only labels there) [
  | inl before ↦
      none_there (get_or start.labels labels None)
      (ap (λ (ls : List (Option ℕ)). get_or ls labels None) made ∙ free (labels + 1) labels None refl) before
  | inr now ↦ absurd (omega (arith, placed_below labels labels ps named now))
]

-- each label of pieces that are well formed is placed
pub all_there : (start laid : Code) (labels : ℕ) (ps : List Piece) → HavePlaced start ps laid
    → AreWellFormed ps labels → (k : ℕ) → k < labels → IsThere laid k
all_there start laid labels ps placed well = λ k less. placed.placed k (well.placed k less)

-- ---- by function

pub ruleset labels_placed = (placed_before, placed_now, there_before, there_now)

pub ruleset piece_placed = (label_there, no_label_there, label_named)
