-- What a sequential program means: what it reads from its links and writes to them, and how it ends. What it does with
-- memory and with instructions is no part of it.
use Rattle.std.specs.Prelude.{ℕ, ◌-◌, Bool, List, [], ◌∷◌, ◌++◌, map, Option, Some, None, option_map}
use Rattle.occam_parser.specs.Lines.{Formal, Constants}
use Rattle.occam_parser.specs.Blocks.{Procedure, ProgramItem, GlobalConstant, GlobalProcedure}
use Rattle.scalar_ranges.specs.Environments.{Environment, Nothing}
use Rattle.program_uses.specs.LinkNames.{link_way}
use Rattle.program_meaning.specs.Links.{Port, Links}
use Rattle.program_meaning.specs.Storing.{bind, declare}
use Rattle.program_meaning.specs.Running.{Surroundings, Outcome, Goes, Waits, Stuck, or_stuck, run}

-- A program ends, waits for ever, or comes to something that has no value.
pub data Ending : Type 0 where
  Ended : Ending
  Idle : Ending
  NoValue : Ending

-- the bytes that were read from each of the four links in, and written to each of the four links out
pub record Report : Type 0 where
  pub ending : Ending
  pub read : List (List ℕ)
  pub written : List (List ℕ)

abbrev pub reads_of : Links → List (List ℕ)
reads_of l = map (λ i. i.read) l.incoming

abbrev pub reported : Outcome → Report
reported (Goes env l) = record { ending = Ended; read = reads_of l; written = l.written }
reported (Waits l) = record { ending = Idle; read = reads_of l; written = l.written }
reported Stuck = record { ending = NoValue; read = []; written = [] }

-- ---- main

-- the number of a link, by the last character of its name, where `0` is 48
abbrev pub link_number : List ℕ → ℕ
link_number [] = 0
link_number (c ∷ []) = c - 48
link_number (b ∷ c ∷ cs) = link_number (c ∷ cs)

-- A parameter of main is a link by its name: in0 to in3, out0 to out3.
abbrev pub port_for : Formal → Option Port
port_for f =
    option_map (λ way. record { way = way; link = link_number f.name; carries = f.value_type }) (link_way f.name)

abbrev pub bind_formals : List Formal → Environment → Environment
bind_formals [] env = env
bind_formals (f ∷ fs) env = bind_formals fs (bind f.name Nothing env)

-- What is declared before the parameters is no link.
abbrev pub no_ports : Environment → List (Option Port)
no_ports env = map (λ b. None) env

abbrev pub in_main : List Bool → Procedure → Environment → Links → Outcome
in_main listens p env l =
    let s : Surroundings = record { ports = no_ports env ++ map port_for p.head.formals; listens = listens } in
    run s p.body (bind_formals p.head.formals env) l

-- ---- programs

-- The constants before main are known in it, and so are the names of procedures.
abbrev pub declare_item : ProgramItem → Environment → Option Environment
declare_item (GlobalConstant c) env = declare (Constants c) env
declare_item (GlobalProcedure p) env = Some (bind p.head.name Nothing env)

-- The last item runs.
abbrev pub run_last : List Bool → ProgramItem → Environment → Links → Outcome
run_last listens (GlobalConstant c) env l = Stuck
run_last listens (GlobalProcedure p) env l = in_main listens p env l

abbrev pub run_items : List Bool → ProgramItem → List ProgramItem → Environment → Links → Outcome
run_items listens item [] env l = run_last listens item env l
run_items listens item (next ∷ items) env l =
    or_stuck (declare_item item env) (λ inner. run_items listens next items inner l)

abbrev pub run_program : List ProgramItem → List Bool → Links → Outcome
run_program [] listens l = Stuck
run_program (item ∷ items) listens l = run_items listens item items [] l

-- Nothing was read and nothing written.
abbrev pub not_yet : List (List ℕ) → Links
not_yet inputs =
    record { incoming = map (λ bytes. record { read = []; unread = bytes }) inputs; written = [] ∷ [] ∷ [] ∷ [] ∷ [] }

-- The meaning of a program, of the bytes that come in on each of four links, and of whether something listens to each
-- of the four links out.
abbrev pub meaning : List ProgramItem → List (List ℕ) → List Bool → Report
meaning items inputs listens = reported (run_program items listens (not_yet inputs))
