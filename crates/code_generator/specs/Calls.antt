-- The code of an instance: that of its procedure's body, which is written anew for each one.
use Rattle.std.specs.Prelude.{ℕ, zero, suc, ◌+◌, nat_eq, List, [], ◌∷◌, ◌++◌, take, if◌then◌else◌, Option, Some, None}
use Rattle.std.specs.Prelude.{slice_get}
use Rattle.occam_parser.specs.Expressions.{Expression}
use Rattle.occam_parser.specs.Blocks.{Procedure}
use Rattle.scalar_ranges.specs.Entries.{Entry}
use Rattle.scalar_ranges.specs.Moves.{outermost}
use Rattle.program_uses.specs.Actions.{Around}
use Rattle.program_uses.specs.Signatures.{Parameter}
use Rattle.usage_checks.specs.ItemRules.{in_body}
use Rattle.code_pieces.specs.Pieces.{Piece, Code, before, closed_by}
use Rattle.line_pieces.specs.Declarations.{Frame, facts_in}
use Rattle.code_generator.specs.Instances.{bindings_code, all_bound, all_forgotten, cleaning_code}
use Rattle.code_generator.specs.Processes.{Site, row_of, Calls, Surroundings, process_code}

-- a procedure that may be called, and how many names are known before it
pub record Callee : Type 0 where
  pub procedure : Procedure
  pub names : ℕ

-- an entry more, if there is one
abbrev pub with_entry : Option Entry → List Entry → List Entry
with_entry None es = es
with_entry (Some e) es = e ∷ es

-- the frame of a procedure before its formals: this number of the outermost names is known there
abbrev pub outside_frame : ℕ → List Parameter → List Expression → Site → Frame
outside_frame names qs actuals s = record {
  homes = take names s.frame.homes;
  top = s.frame.top;
  outer = all_forgotten s.frame.homes s.known.entries s.frame.top qs 0 actuals
      (facts_in s.frame s.known.entries);
}

-- where the body begins, if the row before it has the label that is free
abbrev pub in_callee : Callee → List Parameter → List Expression → Site → Site
in_callee c qs actuals s = record {
  frame =
      all_bound s.frame.homes s.known.entries qs 0 actuals (outside_frame c.names qs actuals s);
  known = in_body c.procedure (record { entries = outermost c.names s.known.entries; blocks = [] });
  label = s.label + 1;
}

-- Before the body: what is passed as a value is stored, and a row says what is known in the body.
abbrev pub callee_start : Callee → List Parameter → List Expression → Site → List Piece
callee_start c qs actuals s =
    let inner = in_callee c qs actuals s in
    bindings_code s.frame.homes s.known.entries qs 0 actuals (outside_frame c.names qs actuals s)
    ++ row_of s.label inner.frame inner.known ∷ []

abbrev pub callee_code : Surroundings → Callee → List Parameter → List Expression → Site → Option Code
callee_code w c qs actuals s =
    before (callee_start c qs actuals s)
    (closed_by (cleaning_code s.frame.homes s.known.entries s.frame.top qs 0 actuals)
    (process_code w c.procedure.body (in_callee c qs actuals s)))

abbrev pub callee_code_if : Surroundings → Option Callee → List Parameter → List Expression → Site → Option Code
callee_code_if w None qs actuals s = None
callee_code_if w (Some c) qs actuals s = callee_code w c qs actuals s

-- before the procedure with this number
abbrev pub around_before : ℕ → Around → Around
around_before n a = record { signatures = take n a.signatures; uncounted = a.uncounted }

-- The code of instances of the first procedures, this number of them. Each of them calls those before it.
abbrev pub calls_below : List Callee → Around → ℕ → Calls
calls_below cs a zero number qs actuals s = None
calls_below cs a (suc n) number qs actuals s =
    if nat_eq n number
    then callee_code_if (record { around = around_before n a; calls = calls_below cs (around_before n a) n })
    (slice_get cs n) qs actuals s
    else calls_below cs a n number qs actuals s

-- where the first procedures, this number of them, may be called
abbrev pub where_called : List Callee → Around → ℕ → Surroundings
where_called cs a count = record { around = a; calls = calls_below cs a count }
