-- Pieces pass that are kept apart, and where more labels are further on.
use Rattle.std.proofs.Common.{◌≡◌, ℕ, pos, Bool, true, false, cond, List, [], ◌∷◌, ◌++◌, Option, Some, None, inl}
use Rattle.std.proofs.Common.{inr, refl, sym, ap, subst, ◌∙◌, append_assoc}
use Rattle.std.specs.Prelude.{IfSome}
use Rattle.code_pieces.specs.declared.piece.RowEntry.{RowEntry}
use Rattle.code_pieces.specs.Pieces.{Piece, Direct, LoopBack, TableAddress, Row, constant}
use Rattle.code_pieces.specs.Laying.{is_row, apart_piece, at_row_behind, apart_from}
use Rattle.local_rules.specs.WordRules.{known_constant}
use Rattle.certified_lines.specs.StraightRules.{Setting, Told, FallOn, done, next, table, with_pushed}
use Rattle.certified_lines.proofs.Instructions.{constants_are_known}
use Rattle.certified_modules.specs.RowsSay.{Implies, Enters}
use Rattle.certified_modules.specs.Passing.{Passage, OpenLabel, open_label, told_by, PassOn, none, both, straight}
use Rattle.certified_modules.specs.Passing.{stops, places, jumps, tests, closes, loops}
use Rattle.certified_modules.specs.PassingLaws.{AreOpen, MoreLabelsMayBeOpen, PiecesPassApart}
use Rattle.certified_modules.proofs.PieceLists.{row_behind, row_behind_both}

-- ---- more labels

open_more : (o : OpenLabel) (opened others : List OpenLabel) → AreOpen opened others → AreOpen (o ∷ opened) (o ∷ others)
open_more o opened others are l entries (inl this) = inl this
open_more o opened others are l entries (inr other) = inr (are l entries other)

pub passes_open : {g : Passage} {opened : List OpenLabel} {s t : Option Told} {ps : List Piece} → PassOn g opened s ps t
    → (others : List OpenLabel) → AreOpen opened others → PassOn g others s ps t
passes_open none others are = none
passes_open (both first second) others are = both (passes_open first others are) (passes_open second others are)
passes_open (straight fall) others are = straight fall
passes_open stops others are = stops
passes_open places others are = places
passes_open (jumps {l = l} entries is implied) others are = jumps entries (are l entries is) implied
passes_open (tests {l = l} r entries is fact range implied) others are =
    tests r entries (are l entries is) fact range implied
passes_open {opened = opened} (closes {l = l} {entries = entries} pass implied) others are =
    closes (passes_open pass (open_label l entries ∷ others) (open_more (open_label l entries) opened others are))
    implied
passes_open (loops behind word last left enters turns pass ends implied) others are =
    loops behind word last left enters turns (passes_open pass others are) ends implied

pub more_labels_may_be_open : MoreLabelsMayBeOpen
more_labels_may_be_open g opened others s t ps are pass = passes_open pass others are

-- ---- kept apart

-- something falls in
abbrev IsTold : Option Told → Type 0
IsTold None = ⊥
IsTold (Some s) = Unit {0}

apart_other : (b : Bool) (p : Piece) → is_row p ≡ false → apart_piece b p ≡ p ∷ []
apart_other true p is = ap (λ (r : Bool). cond r (constant (pos 0) ∷ p ∷ []) (p ∷ [])) is
apart_other false p is = refl

apart_both : (b : Bool) (ps qs : List Piece)
    → apart_from b (ps ++ qs) ≡ apart_from b ps ++ apart_from (row_behind b ps) qs
apart_both b [] qs = refl
apart_both b (p ∷ ps) qs =
    ap (λ (xs : List Piece). apart_piece b p ++ xs) (apart_both (at_row_behind p b) ps qs)
    ∙ sym (append_assoc (apart_piece b p) (apart_from (at_row_behind p b) ps)
    (apart_from (row_behind (at_row_behind p b) ps) qs))

straight_apart : {g : Setting} {s t : Told} {ps : List Piece} → FallOn g ps s t → (b : Bool) → apart_from b ps ≡ ps
straight_apart done b = refl
straight_apart (next {f = f} {e = e} {ps = ps} x fall) b =
    ap (λ (xs : List Piece). xs ++ apart_from false ps) (apart_other b (Direct f e) refl)
    ∙ ap (λ (xs : List Piece). Direct f e ∷ xs) (straight_apart fall false)
straight_apart (table {values = values} {ps = ps} fall) b =
    ap (λ (xs : List Piece). xs ++ apart_from false ps) (apart_other b (TableAddress values) refl)
    ∙ ap (λ (xs : List Piece). TableAddress values ∷ xs) (straight_apart fall false)

-- pieces that are kept apart pass, and something falls in behind them where a row may be
record PassApart (g : Passage) (opened : List OpenLabel) (s : Option Told) (b : Bool) (ps : List Piece)
    (t : Option Told) : Type 0 where
  pass : PassOn g opened s (apart_from b ps) t
  told : row_behind b ps ≡ true → IsTold t

-- one piece that is no row
alone_apart : {g : Passage} {opened : List OpenLabel} {s t : Option Told} (p : Piece) (b : Bool) → is_row p ≡ false
    → PassOn g opened s (p ∷ []) t → (at_row_behind p b ≡ true → IsTold t) → PassApart g opened s b (p ∷ []) t
alone_apart {g} {opened} {s} {t} p b is pass told = record {
  pass = subst (λ (xs : List Piece). PassOn g opened s (xs ++ []) t) (sym (apart_other b p is)) pass;
  told = told;
}

-- a row, where pieces end that are kept apart
row_apart : {g : Passage} {opened : List OpenLabel} {s : Option Told} (r : Bool) (ps : List Piece) (t : Option Told)
    (l : ℕ) (entries : List RowEntry) → PassOn g (open_label l entries ∷ opened) s ps t → (r ≡ true → IsTold t)
    → IfSome t (λ told. Implies g.weights told.frame entries)
    → PassOn g opened s (ps ++ (apart_piece r (Row l entries) ++ [])) (Some (told_by g entries))
row_apart false ps t l entries pass told implied = closes pass implied
row_apart true ps None l entries pass told implied = absurd (told refl)
row_apart {g} {opened} {s} true ps (Some t) l entries pass told implied =
    subst (λ (xs : List Piece). PassOn g opened s xs (Some (told_by g entries)))
    (append_assoc ps (constant (pos 0) ∷ []) (Row l entries ∷ []))
    (closes (both pass (straight (constants_are_known g.setting (pos 0) t))) implied)

-- a loop, where a row may be right before
loop_apart : {g : Passage} {opened : List OpenLabel} (b : Bool) (s : Option Told) (head count : ℕ)
    (entries : List RowEntry) (rest : List Piece) (t : Option Told) → (b ≡ true → IsTold s)
    → IfSome s (λ told. Enters g.weights told.frame head count entries)
    → ((u : Option Told) → IfSome u (λ told. Enters g.weights told.frame head count entries)
    → PassOn g opened u (Row head entries ∷ rest) t)
    → PassOn g opened s (apart_piece b (Row head entries) ++ rest) t
loop_apart false s head count entries rest t told enters pass = pass s enters
loop_apart true None head count entries rest t told enters pass = absurd (told refl)
loop_apart {g} true (Some s) head count entries rest t told enters pass =
    both (straight (constants_are_known g.setting (pos 0) s))
    (pass (Some (with_pushed (known_constant (pos 0)) s)) enters)

passes_apart : {g : Passage} {opened : List OpenLabel} {s t : Option Told} {ps : List Piece} → PassOn g opened s ps t
    → (b : Bool) → (b ≡ true → IsTold s) → PassApart g opened s b ps t
passes_apart none b told = record { pass = none; told = told }
passes_apart {g} {opened} {s} {t = u} (both {ps = ps} {qs = qs} first second) b told =
    let one = passes_apart first b told in
    let two = passes_apart second (row_behind b ps) one.told in
    record {
      pass = subst (λ (xs : List Piece). PassOn g opened s xs u) (sym (apart_both b ps qs)) (both one.pass two.pass);
      told = λ at. two.told (sym (row_behind_both b ps qs) ∙ at);
    }
passes_apart {g} {opened} {s} {t} {ps} (straight fall) b told = record {
  pass = subst (λ (xs : List Piece). PassOn g opened s xs t) (sym (straight_apart fall b)) (straight fall);
  told = λ at. tt;
}
passes_apart stops b told = alone_apart _ b refl stops (λ at. absurd (cc))
passes_apart places b told = alone_apart _ b refl places told
passes_apart (jumps entries is implied) b told =
    alone_apart _ b refl (jumps entries is implied) (λ at. absurd (cc))
passes_apart (tests r entries is fact range implied) b told =
    alone_apart _ b refl (tests r entries is fact range implied) (λ at. tt)
passes_apart {g} {opened} {s} (closes {t = t} {ps = ps} {l = l} {entries = entries} pass implied) b told =
    let one = passes_apart pass b told in
    record {
      pass = subst (λ (xs : List Piece). PassOn g opened s xs (Some (told_by g entries)))
          (sym (apart_both b ps (Row l entries ∷ [])))
          (row_apart (row_behind b ps) (apart_from b ps) t l entries one.pass one.told implied);
      told = λ at. tt;
    }
passes_apart {g} {opened} {s} (loops {t = t} {head = head} {count = count} {entries = entries}
    {body = body} behind word last left enters turns pass ends implied) b told =
    let end : List Piece = LoopBack head behind ∷ Row behind left ∷ [] in
    let inner = passes_apart pass true (λ at. tt) in
    let behind_body : Bool = row_behind true body in
    let end_is : apart_from behind_body end ≡ end =
    ap (λ (xs : List Piece). xs ++ Row behind left ∷ []) (apart_other behind_body (LoopBack head behind) refl) in
    let body_is : apart_from true (body ++ end) ≡ apart_from true body ++ end =
    apart_both true body end ∙ ap (λ (xs : List Piece). apart_from true body ++ xs) end_is in
    record {
      pass = subst (λ (xs : List Piece). PassOn g opened s (apart_piece b (Row head entries) ++ xs)
          (Some (told_by g left))) (sym body_is)
          (loop_apart b s head count entries (apart_from true body ++ end) (Some (told_by g left)) told enters
          (λ u enter. loops behind word last left enter turns inner.pass ends implied));
      told = λ at. tt;
    }

pub pieces_pass_apart : PiecesPassApart
pieces_pass_apart g opened s t ps pass = (passes_apart pass true (λ at. tt)).pass
