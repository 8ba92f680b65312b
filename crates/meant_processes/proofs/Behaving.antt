-- What pieces make a process do, put together from their parts.
use Rattle.std.proofs.Common.{ℕ, true, List, [], ◌∷◌, ◌++◌, sym, subst, arith}
use Rattle.machine_state.specs.Memory.{Memory}
use Rattle.scalar_ranges.specs.Environments.{Environment}
use Rattle.program_meaning.specs.Doing.{Doing, Leaves, doing_then}
use Rattle.code_pieces.specs.declared.piece.RowEntry.{RowEntry}
use Rattle.code_pieces.specs.Pieces.{Piece, Row}
use Rattle.placed_code.specs.LaidCode.{LaidCode}
use Rattle.placed_code.specs.StraightPieces.{Held, LeadOn}
use Rattle.placed_code.specs.Points.{Point}
use Rattle.placed_code.specs.Behaves.{Behaves, any, asks, halts, over, sends, steps}
use Rattle.placed_code.proofs.PiecesGo.{straight_goes}
use Rattle.placed_code.proofs.Behaves.{followed, steps_behave}
use Rattle.meant_code.specs.Labels.{AreStraight}
use Rattle.meant_processes.specs.Lying.{LieApart, PiecesBehave}
use Rattle.meant_processes.proofs.Indices.{WhatLeaves}
use Rattle.meant_processes.proofs.Lying.{apart_both, apart_rises, first_apart, none_end, row_passes, straight_lie}

module _ (c : LaidCode) where
  -- ---- what becomes of the end

  -- from wherever it ends the process goes on, and leaves the same
  pub goes_on_behind : {End Last : Environment → Point → Type 0} {p : Point} {t : Doing} → Behaves c End p t
      → ((env : Environment) (q : Point) → End env q → Behaves c Last q (Leaves env)) → Behaves c Last p t
  goes_on_behind (over e) after = after _ _ e
  goes_on_behind any after = any
  goes_on_behind (halts x) after = halts x
  goes_on_behind (steps x rest) after = steps x (goes_on_behind rest after)
  goes_on_behind (asks x rest) after = asks x (λ bytes q is are came. goes_on_behind (rest bytes q is are came) after)
  goes_on_behind (sends x rest) after = sends x (λ q went. goes_on_behind (rest q went) after)

  -- what holds of what is left holds at the end
  pub behaves_well : {End : Environment → Point → Type 0} {p : Point} {t : Doing} (Holds : Environment → Type 0)
      → Behaves c End p t → WhatLeaves Holds t → Behaves c (λ env q. End env q × Holds env) p t
  behaves_well Holds (over e) well = over (e, well)
  behaves_well Holds any well = any
  behaves_well Holds (halts x) well = halts x
  behaves_well Holds (steps x rest) well = steps x (behaves_well Holds rest well)
  behaves_well Holds (asks x rest) well =
      asks x (λ bytes q is are came. behaves_well Holds (rest bytes q is are came) (well bytes is))
  behaves_well Holds (sends x rest) well = sends x (λ q went. behaves_well Holds (rest q went) well)

  -- ---- pieces

  pub pieces_well : {Before : Memory → Type 0} {After : Environment → Memory → Type 0} {ps : List Piece} {t : Doing}
      (Holds : Environment → Type 0) → PiecesBehave c Before ps After t → WhatLeaves Holds t
      → PiecesBehave c Before ps (λ env m. After env m × Holds env) t
  pieces_well Holds b well = record {
    behaves = λ at_row at to h lie inside holds.
        goes_on_behind (behaves_well Holds (b.behaves at_row at to h lie inside holds) well)
        (λ env q came. over (came.0.0, (came.0.1, came.1)));
  }

  pub pieces_as : {Before First : Memory → Type 0} {After Last : Environment → Memory → Type 0} {ps : List Piece}
      {t : Doing} → ((m : Memory) → First m → Before m)
      → ((env : Environment) (m : Memory) → After env m → Last env m) → PiecesBehave c Before ps After t
      → PiecesBehave c First ps Last t
  pieces_as first last b = record {
    behaves = λ at_row at to h lie inside holds.
        goes_on_behind (b.behaves at_row at to h lie inside (first h.memory holds))
        (λ env q came. over (came.0, last env q.held.memory came.1));
  }

  pub no_pieces : {Before : Memory → Type 0} {After : Environment → Memory → Type 0} (env : Environment)
      → ((m : Memory) → Before m → After env m) → PiecesBehave c Before [] After (Leaves env)
  no_pieces {After = After} env after = record {
    behaves = λ at_row at to h lie inside holds. over (none_end c at_row at to lie, after h.memory holds);
  }

  pub pieces_both : {Before : Memory → Type 0} {Middle After : Environment → Memory → Type 0} {ps qs : List Piece}
      {t : Doing} (f : Environment → Doing) → PiecesBehave c Before ps Middle t
      → ((env : Environment) → PiecesBehave c (Middle env) qs After (f env))
      → PiecesBehave c Before (ps ++ qs) After (doing_then t f)
  pieces_both {ps = ps} {qs = qs} f first second = record {
    behaves = λ at_row at to h lie inside holds.
        let both = apart_both c at_row at to ps qs lie in
        let rises = apart_rises c both.after_row both.middle to qs both.second in
        followed c f (first.behaves at_row at both.middle h both.first (omega (arith, rises, inside)) holds)
        (λ env q came. (second env).behaves both.after_row q.at to q.held
        (subst (λ n. LieApart c both.after_row n qs to) (sym came.0) both.second) inside came.1);
  }

  -- pieces behind that leave what was left
  pub pieces_behind : {Before : Memory → Type 0} {Middle After : Environment → Memory → Type 0} {ps qs : List Piece}
      {t : Doing} → PiecesBehave c Before ps Middle t
      → ((env : Environment) → PiecesBehave c (Middle env) qs After (Leaves env))
      → PiecesBehave c Before (ps ++ qs) After t
  pieces_behind {ps = ps} {qs = qs} first second = record {
    behaves = λ at_row at to h lie inside holds.
        let both = apart_both c at_row at to ps qs lie in
        let rises = apart_rises c both.after_row both.middle to qs both.second in
        goes_on_behind (first.behaves at_row at both.middle h both.first (omega (arith, rises, inside)) holds)
        (λ env q came. (second env).behaves both.after_row q.at to q.held
        (subst (λ n. LieApart c both.after_row n qs to) (sym came.0) both.second) inside came.1);
  }

  -- what straight pieces lead to
  pub record Led (ps : List Piece) (After : Memory → Type 0) (before : Held) : Type 0 where
    pub after : Held
    pub leads : LeadOn c.footing ps before after
    pub holds : After after.memory

  pub straight_before : {Before Middle : Memory → Type 0} {After : Environment → Memory → Type 0} {ps qs : List Piece}
      {t : Doing} → AreStraight ps → ((h : Held) → Before h.memory → Led ps Middle h)
      → PiecesBehave c Middle qs After t → PiecesBehave c Before (ps ++ qs) After t
  straight_before {ps = ps} {qs = qs} are led b = record {
    behaves = λ at_row at to h lie inside holds.
        let both = apart_both c at_row at to ps qs lie in
        let l = led h holds in
        steps_behave c (straight_goes c (straight_lie c at_row at both.middle ps are both.first) l.leads)
        (b.behaves both.after_row both.middle to l.after both.second inside l.holds);
  }

  pub row_before : {Before : Memory → Type 0} {After : Environment → Memory → Type 0} {ps : List Piece} {t : Doing}
      (l : ℕ) (entries : List RowEntry) → PiecesBehave c Before ps After t
      → PiecesBehave c Before (Row l entries ∷ ps) After t
  row_before {Before} {ps = ps} l entries b = record {
    behaves = λ at_row at to h lie inside holds.
        let f = first_apart c at_row at (Row l entries) ps to lie in
        let p = row_passes c at_row at l entries f.middle h f.is in
        steps_behave c p.goes (b.behaves true f.middle to p.after f.rest inside (subst Before (sym p.same) holds));
  }

  pub row_behind : {Before : Memory → Type 0} {After : Environment → Memory → Type 0} {ps : List Piece} {t : Doing}
      (l : ℕ) (entries : List RowEntry) → PiecesBehave c Before ps After t
      → PiecesBehave c Before (ps ++ Row l entries ∷ []) After t
  row_behind {After = After} l entries b =
      pieces_behind b (λ env. row_before l entries (no_pieces env (λ m holds. holds)))
