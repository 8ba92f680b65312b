-- Programs: what is read is written so, and what is written is read again.
use Rattle.std.proofs.Common.{◌≡◌, ℕ, zero, suc, ◌≤◌, Bool, true, false, cond, List, [], ◌∷◌, ◌++◌}
use Rattle.std.proofs.Common.{length, nat_lt, ◌==◌, Option, Some, None, refl, sym, ap, subst, arith, append_assoc}
use Rattle.std.proofs.Common.{append-nil, length-append, ◌∙◌}
use Rattle.std.proofs.lemmas.Bool.{eqb-true, ltb-false, and_parts}
use Rattle.occam_layout.specs.declared.mark.Mark.TheVariants as mark
use Rattle.occam_parser.specs.Terminals.{Terminal, Mark}
use Rattle.occam_parser.specs.Reading.{◌>>=◌, behind}
use Rattle.occam_parser.specs.Lines.{Constant, ProcHead, written_constant, written_proc_head, FitsConstant}
use Rattle.occam_parser.specs.Lines.{FitsProcHead}
use Rattle.occam_parser.specs.LineReading.{ended, constant_at, proc_head_at}
use Rattle.occam_parser.specs.Blocks.{Row, Process, lines_of, FitsProcess, Procedure, ProgramItem, GlobalConstant}
use Rattle.occam_parser.specs.Blocks.{GlobalProcedure, proc_row, colon_row, constant_row, IsProgram}
use Rattle.occam_parser.specs.BlockReading.{process_at, is_colon, behind_colon, procedure_at, item_with, item_at}
use Rattle.occam_parser.specs.BlockReading.{items_from, program_at}
use Rattle.occam_parser.proofs.Options.{bind_some, at_some}
use Rattle.occam_parser.proofs.Marks.{behind_is, behind_again}
use Rattle.occam_parser.proofs.LineSound.{constant_sound, proc_head_sound}
use Rattle.occam_parser.proofs.LineAgain.{constant_again, proc_head_again}
use Rattle.occam_parser.proofs.BlockSound.{row_eq, process_sound}
use Rattle.occam_parser.proofs.BlockAgain.{Stops, process_again, stops_at_row}

-- ---- what is read is written so

ended_is : (ts : List Terminal) → ended ts ≡ true → ts ≡ []
ended_is [] e = refl
ended_is (t ∷ ts) e = absurd (cc)

colon_is : (r : Row) (o : Option (List Terminal)) → behind mark.Colon r.terminals ≡ o → is_colon r o ≡ true
    → r ≡ colon_row r.number
colon_is r None b e = absurd (cc)
colon_is r (Some after) b e =
    let h = and_parts (r.level == 0) (ended after) e in
    row_eq r 0 (Mark mark.Colon ∷ []) (eqb-true r.level 0 h.0)
    (behind_is mark.Colon r.terminals after b ∙ ap (λ us. Mark mark.Colon ∷ us) (ended_is after h.1))

colon_if : (b : Bool) (r : Row) (rows rest : List Row) → is_colon r (behind mark.Colon r.terminals) ≡ b
    → cond b (Some rows) None ≡ Some rest → (number : ℕ) × (r ∷ rows ≡ colon_row number ∷ rest)
colon_if false r rows rest b e = absurd (cc)
colon_if true r rows rest b e =
    let first = colon_is r (behind mark.Colon r.terminals) refl b in
    let same : rows ≡ rest = cc in
    (r.number, ap (λ q. q ∷ rows) first ∙ ap (λ us. colon_row r.number ∷ us) same)

colon_sound : (rows rest : List Row) → behind_colon rows ≡ Some rest → (number : ℕ) × (rows ≡ colon_row number ∷ rest)
unfolding behind_colon
colon_sound [] rest e = absurd (cc)
colon_sound (r ∷ rows) rest e = colon_if (is_colon r (behind mark.Colon r.terminals)) r rows rest refl e

-- these lines begin with this item
abbrev pub IsItem : List Row → ProgramItem → List Row → Type 0
IsItem rows (GlobalConstant c) rest = (rows ≡ constant_row c ∷ rest) × FitsConstant c.line c
IsItem rows (GlobalProcedure p) rest = (number : ℕ) ×
    (rows ≡ proc_row p ∷ (lines_of p.body 1 ++ colon_row number ∷ rest)) × FitsProcHead p.head × FitsProcess p.body 1

abbrev pub IsProcedure : Row → List Row → Procedure × List Row → Type 0
IsProcedure r rows x = (number : ℕ) × (r ∷ rows ≡ proc_row x.0 ∷ (lines_of x.0.body 1 ++ colon_row number ∷ x.1)) ×
    FitsProcHead x.0.head × FitsProcess x.0.body 1

procedure_sound : (r : Row) (ts : List Terminal) (rows : List Row) (x : Procedure × List Row) → r.level ≡ 0
    → r.terminals ≡ Mark mark.Proc ∷ ts → procedure_at r.number ts rows ≡ Some x → IsProcedure r rows x
unfolding procedure_at
procedure_sound r ts rows x l t e =
    let head = bind_some (proc_head_at ts) _ x e in
    let body = bind_some (process_at 64 1 rows) _ x head.2 in
    let rest = bind_some (behind_colon body.0.1) _ x body.2 in
    let h = proc_head_sound ts head.0 head.1 in
    let b = process_sound 64 1 rows body.0.0 body.0.1 body.1 in
    let c = colon_sound body.0.1 rest.0 rest.1 in
    let first = row_eq r 0 (Mark mark.Proc ∷ written_proc_head head.0) l (t ∙ ap (λ us. Mark mark.Proc ∷ us) h.0) in
    let whole = ap (λ q. q ∷ rows) first ∙ ap
    (λ us. record { number = r.number; level = 0; terminals = Mark mark.Proc ∷ written_proc_head head.0 } ∷ us)
    (b.0 ∙ ap (λ us. lines_of body.0.0 1 ++ us) c.1) in
    at_some (IsProcedure r rows) (record { line = r.number; head = head.0; body = body.0.0 }, rest.0) x rest.2
    (c.0, whole, h.1, b.1)

constant_item : (r : Row) (ts : List Terminal) (rows : List Row) (c : Constant) → r.level ≡ 0
    → r.terminals ≡ Mark mark.Val ∷ ts → constant_at r.number ts ≡ Some c → IsItem (r ∷ rows) (GlobalConstant c) rows
constant_item r ts rows c l t e =
    let h = constant_sound r.number ts c e in
    let first = row_eq r 0 (Mark mark.Val ∷ written_constant c) l (t ∙ ap (λ us. Mark mark.Val ∷ us) h.0) in (
      ap (λ q. q ∷ rows) (first ∙ ap (λ (n : ℕ). record
          { number = n; level = 0; terminals = Mark mark.Val ∷ written_constant c }) (sym h.1.0)),
      (refl, h.1.1),
    )

item_with_sound : (r : Row) (ts : List Terminal) (rows : List Row) (x : ProgramItem × List Row) → r.level ≡ 0
    → r.terminals ≡ ts → item_with r.number rows ts ≡ Some x → IsItem (r ∷ rows) x.0 x.1
unfolding item_with
item_with_sound r [] rows x l t e = absurd (cc)
item_with_sound r (Mark mark.Val ∷ ts) rows x l t e =
    let c = bind_some (constant_at r.number ts) _ x e in
    at_some (λ (y : ProgramItem × List Row). IsItem (r ∷ rows) y.0 y.1) (GlobalConstant c.0, rows) x c.2
    (constant_item r ts rows c.0 l t c.1)
item_with_sound r (Mark mark.Proc ∷ ts) rows x l t e =
    let p = bind_some (procedure_at r.number ts rows) _ x e in
    at_some (λ (y : ProgramItem × List Row). IsItem (r ∷ rows) y.0 y.1) (GlobalProcedure p.0.0, p.0.1) x p.2
    (procedure_sound r ts rows p.0 l t p.1)
item_with_sound r (t ∷ ts) rows x l u e = absurd (cc)

item_if : (b : Bool) (r : Row) (rows : List Row) (x : ProgramItem × List Row) → nat_lt 0 r.level ≡ b
    → cond b None (item_with r.number rows r.terminals) ≡ Some x → IsItem (r ∷ rows) x.0 x.1
item_if true r rows x b e = absurd (cc)
item_if false r rows x b e = let low = ltb-false 0 r.level b in item_with_sound r r.terminals rows x (omega arith)
    refl e

item_sound : (r : Row) (rows : List Row) (x : ProgramItem × List Row) → item_at r rows ≡ Some x
    → IsItem (r ∷ rows) x.0 x.1
unfolding item_at
item_sound r rows x e = item_if (nat_lt 0 r.level) r rows x refl e

program_of : (rows : List Row) (x : ProgramItem) (rest : List Row) (items : List ProgramItem) → IsItem rows x rest
    → IsProgram rest items → IsProgram rows (x ∷ items)
program_of rows (GlobalConstant c) rest items i p = (rest, i.0, i.1, p)
program_of rows (GlobalProcedure q) rest items i p = (i.0, rest, i.1, i.2, i.3, p)

items_sound : (n : ℕ) (found : List ProgramItem) (rows : List Row) (ys : List ProgramItem)
    → items_from n found rows ≡ Some ys → (more : List ProgramItem) × (ys ≡ found ++ more) × IsProgram rows more
unfolding items_from
items_sound zero found [] ys e = let same : found ≡ ys = cc in ([], sym same ∙ sym (append-nil found), refl)
items_sound (suc n) found [] ys e = let same : found ≡ ys = cc in ([], sym same ∙ sym (append-nil found), refl)
items_sound zero found (r ∷ rows) ys e = absurd (cc)
items_sound (suc n) found (r ∷ rows) ys e =
    let x = bind_some (item_at r rows) _ ys e in
    let rest = items_sound n (found ++ x.0.0 ∷ []) x.0.1 ys x.2 in (
      x.0.0 ∷ rest.0,
      rest.1 ∙ append_assoc found (x.0.0 ∷ []) rest.0,
      program_of (r ∷ rows) x.0.0 x.0.1 rest.0
          (item_sound r rows x.0 x.1) rest.2,
    )

pub program_sound : (rows : List Row) (items : List ProgramItem) → program_at rows ≡ Some items → IsProgram rows items
unfolding program_at
program_sound rows items e =
    let h = items_sound (length rows) [] rows items e in
    subst (IsProgram rows) (sym h.1) h.2

-- ---- what is written is read again

-- how an item is read from its lines
record ReadItem (rows : List Row) (x : ProgramItem) (rest : List Row) : Type 0 where
  first : Row
  more : List Row
  are : rows ≡ first ∷ more
  reads : item_at first more ≡ Some (x, rest)
  less : length rest ≤ length more

colon_again : (number : ℕ) (rest : List Row) → behind_colon (colon_row number ∷ rest) ≡ Some rest
unfolding behind_colon
colon_again number rest = ap (λ o. cond (is_colon (colon_row number) o) (Some rest) None) (behind_again mark.Colon [])

stops_after : (number : ℕ) (rest : List Row) → Stops 1 (colon_row number ∷ rest)
stops_after number rest k h = stops_at_row 0 (colon_row number) rest refl k (omega arith)

item_again : (rows : List Row) (x : ProgramItem) (rest : List Row) → IsItem rows x rest → ReadItem rows x rest
unfolding item_at item_with procedure_at
item_again rows (GlobalConstant c) rest i =
    record {
      first = constant_row c;
      more = rest;
      are = i.0;
      reads = ap (λ (o : Option Constant). o >>= λ constant. Some (GlobalConstant constant, rest))
          (constant_again c.line c i.1);
      less = omega arith;
    }
item_again rows (GlobalProcedure p) rest i =
    let colon = colon_row i.0 in
    let more = lines_of p.body 1 ++ colon ∷ rest in
    let body = process_again p.body 64 1 (colon ∷ rest) (omega arith) i.3 (stops_after i.0 rest) in
    let procedure =
    ap (λ (o : Option ProcHead). o >>= λ head. process_at 64 1 more >>= λ body. behind_colon body.1 >>= λ rest. Some
    (record { line = p.line; head = head; body = body.0 }, rest)) (proc_head_again p.head i.2)
    ∙ ap (λ (o : Option (Process × List Row)). o >>= λ body. behind_colon body.1 >>= λ rest. Some
    (record { line = p.line; head = p.head; body = body.0 }, rest)) body
    ∙ ap (λ (o : Option (List Row)). o >>= λ rest. Some
    (record { line = p.line; head = p.head; body = p.body }, rest)) (colon_again i.0 rest)
    in
    record {
      first = proc_row p;
      more = more;
      are = i.1;
      reads = ap (λ (o : Option (Procedure × List Row)). o >>= λ procedure. Some
          (GlobalProcedure procedure.0, procedure.1)) procedure;
      less = omega (arith, length-append (lines_of p.body 1) (colon ∷ rest));
    }

items_step : (n : ℕ) (found items : List ProgramItem) (rows rest : List Row) (x : ProgramItem) → length rows ≤ n
    → ReadItem rows x rest → ((m : ℕ) → length rest ≤ m
    → items_from m (found ++ x ∷ []) rest ≡ Some ((found ++ x ∷ []) ++ items))
    → items_from n found rows ≡ Some (found ++ x ∷ items)
unfolding items_from
items_step zero found items rows rest x enough r next = let are = ap length r.are in absurd (omega arith)
items_step (suc n) found items rows rest x enough r next =
    let are = ap length r.are in
    let less = r.less in
    ap (items_from (suc n) found) r.are
    ∙ ap (λ (o : Option (ProgramItem × List Row)). o >>= λ y. items_from n (found ++ y.0 ∷ []) y.1) r.reads
    ∙ next n (omega arith)
    ∙ ap Some (append_assoc found (x ∷ []) items)

no_items : (n : ℕ) (found : List ProgramItem) → items_from n found [] ≡ Some found
unfolding items_from
no_items zero found = refl
no_items (suc n) found = refl

items_again : (items : List ProgramItem) (n : ℕ) (found : List ProgramItem) (rows : List Row) → length rows ≤ n
    → IsProgram rows items → items_from n found rows ≡ Some (found ++ items)
items_again [] n found rows enough is = ap (items_from n found) is ∙ no_items n found ∙ ap Some (sym (append-nil found))
items_again (GlobalConstant c ∷ items) n found rows enough is =
    items_step n found items rows is.0 (GlobalConstant c) enough
    (item_again rows (GlobalConstant c) is.0 (is.1, is.2))
    (λ m h. items_again items m (found ++ GlobalConstant c ∷ []) is.0 h is.3)
items_again (GlobalProcedure p ∷ items) n found rows enough is =
    items_step n found items rows is.1 (GlobalProcedure p) enough
    (item_again rows (GlobalProcedure p) is.1 (is.0, is.2, is.3, is.4))
    (λ m h. items_again items m (found ++ GlobalProcedure p ∷ []) is.1 h is.5)

pub program_again : (rows : List Row) (items : List ProgramItem) → IsProgram rows items → program_at rows ≡ Some items
unfolding program_at
program_again rows items is = items_again items (length rows) [] rows (omega arith) is

-- no lines are two programs
pub one_program : (rows : List Row) (items others : List ProgramItem) → IsProgram rows items → IsProgram rows others
    → items ≡ others
one_program rows items others p q = let same : Some items ≡ Some others =
    sym (program_again rows items p) ∙ program_again rows others q in cc

-- ---- a loop over items

-- what is left of a program's reading, when these items were found
pub record ContinuesProgram (start : List Row) (found : List ProgramItem) (rows : List Row) : Type 0 where
  pub turns : ℕ
  pub enough : length rows ≤ turns
  pub so_far : program_at start ≡ items_from turns found rows

pub program_begins : (start : List Row) → ContinuesProgram start [] start
unfolding program_at
program_begins start = record { turns = length start; enough = omega arith; so_far = refl }

item_turn : (n : ℕ) (found : List ProgramItem) (r : Row) (rows : List Row) → length (r ∷ rows) ≤ n
    → (m : ℕ) × (length rows ≤ m) × (items_from n found
    (r ∷ rows) ≡ (item_at r rows >>= λ x. items_from m (found ++ x.0 ∷ []) x.1))
unfolding items_from
item_turn zero found r rows enough = absurd (omega arith)
item_turn (suc n) found r rows enough = (n, omega arith, refl)

pub program_goes_on : (start : List Row) (found : List ProgramItem) (r : Row) (rows rest : List Row)
    (x : ProgramItem) → item_at r rows ≡ Some (x, rest) → length rest ≤ length rows
    → ContinuesProgram start found (r ∷ rows) → ContinuesProgram start (found ++ x ∷ []) rest
program_goes_on start found r rows rest x e less c =
    let t = item_turn c.turns found r rows c.enough in
    record {
      turns = t.0;
      enough = omega (arith, t.1);
      so_far =
          c.so_far ∙ t.2 ∙ ap (λ (o : Option (ProgramItem × List Row)). o >>= λ y. items_from t.0 (found ++ y.0 ∷ [])
          y.1) e;
    }

pub program_fails : (start : List Row) (found : List ProgramItem) (r : Row) (rows : List Row) → item_at r rows ≡ None
    → ContinuesProgram start found (r ∷ rows) → program_at start ≡ None
program_fails start found r rows e c =
    let t = item_turn c.turns found r rows c.enough in
    c.so_far ∙ t.2 ∙ ap (λ (o : Option (ProgramItem × List Row)). o >>= λ y. items_from t.0 (found ++ y.0 ∷ []) y.1) e

pub program_ends : (start : List Row) (found : List ProgramItem) → ContinuesProgram start found []
    → program_at start ≡ Some found
program_ends start found c = c.so_far ∙ no_items c.turns found

-- no line is a program without items
pub no_rows : (rows : List Row) → rows ≡ [] → program_at rows ≡ None → ⊥
unfolding program_at
no_rows rows e none =
    let found : program_at rows ≡ Some [] = ap program_at e ∙ no_items 0 [] in
    let same : ◌≡◌ {A = Option (List ProgramItem)} (Some []) None = sym found ∙ none in
    absurd (cc)
