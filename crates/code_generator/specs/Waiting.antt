-- What guards wait for, and the code of an alternation before its branches.
use Rattle.std.specs.Prelude.{ℕ, ◌+◌, max, nat_eq, ℤ, pos, Bool, false, List, [], ◌∷◌, ◌++◌}
use Rattle.std.specs.Prelude.{if◌then◌else◌, Option, Some, None, option_map, slice_get, slice_set, drop, map}
use Rattle.std.specs.Ordering.{int_eq}
use Rattle.occam_parser.specs.Expressions.{Expression}
use Rattle.occam_parser.specs.Lines.{Guard, Skips}
use Rattle.occam_parser.specs.Lines as lines
use Rattle.scalar_ranges.specs.Entries.{Entry}
use Rattle.scalar_ranges.specs.Bounds.{bound_of, exact_value}
use Rattle.code_pieces.specs.declared.operations.TheConstants.{ALTERNATE, ALTERNATION_WAIT, ENABLE_CHANNEL, ENABLE_SKIP}
use Rattle.code_pieces.specs.declared.operations.TheConstants.{DISABLE_CHANNEL, DISABLE_SKIP, OR, STOP_PROCESS}
use Rattle.code_pieces.specs.Pieces.{Piece, Distance, Select, Place, operates, loads, stores, points, constant}
use Rattle.code_pieces.specs.Pieces.{word_after}
use Rattle.code_generator.specs.declared.guards.Source.{Source}
use Rattle.code_generator.specs.declared.guards.Source.TheVariants as awaits
use Rattle.code_generator.specs.declared.guards.Ready.{Ready}
use Rattle.code_generator.specs.declared.guards.Ready.TheVariants as may
use Rattle.code_generator.specs.declared.guards.Awaited.{Awaited}
use Rattle.code_generator.specs.declared.guards.Labels.{Labels}
use Rattle.code_generator.specs.declared.guards.Exits.{Exits}
use Rattle.line_pieces.specs.Homes.{Home}
use Rattle.line_pieces.specs.Expressions.{expression_code}
use Rattle.line_pieces.specs.Actions.{channel_code, channel_home, link_code}

-- ---- guards

abbrev pub condition_in : Guard → Option Expression
condition_in (lines.Receives condition channel target) = condition
condition_in (Skips e) = Some e

-- pushes the address of the channel that a guard waits for
abbrev pub waiting_for : List Home → List Entry → Guard → List Piece
waiting_for hs es (lines.Receives condition channel target) = channel_code (channel_home hs es channel)
waiting_for hs es (Skips e) = []

abbrev pub source_code : Source → List Piece
source_code awaits.Skip = []
source_code (awaits.Channel w) = points w ∷ []
source_code (awaits.Link n) = link_code n

-- whether two guards wait for the same channel
abbrev pub are_alike : Source → Source → Bool
are_alike (awaits.Channel w) (awaits.Channel v) = nat_eq w v
are_alike (awaits.Link n) (awaits.Link m) = nat_eq n m
are_alike one other = false

-- the place of those that wait for a channel, if the first one has this place
abbrev pub place_in : Source → ℕ → List Awaited → Option ℕ
place_in s place [] = None
place_in s place (a ∷ rest) = if are_alike a.source s then Some place else place_in s (place + 1) rest

-- the first guard that waits for a channel, if the first one has this number
abbrev pub next_in : Source → ℕ → List Source → Option ℕ
next_in s number [] = None
next_in s number (x ∷ xs) = if are_alike x s then Some number else next_in s (number + 1) xs

abbrev pub next_as : Option Source → ℕ → List Source → Option ℕ
next_as None number xs = None
next_as (Some s) number xs = next_in s (number + 1) (drop (number + 1) xs)

-- the next guard that waits for the same as the one with this number
abbrev pub next_of : ℕ → List Source → Option ℕ
next_of number xs = next_as (slice_get xs number) number xs

abbrev pub ready_as : Option Awaited → Ready
ready_as None = may.Never
ready_as (Some a) = a.ready

-- whether those at a place may be chosen
abbrev pub ready_in : Option ℕ → List Awaited → Ready
ready_in None rest = may.Never
ready_in (Some place) rest = ready_as (slice_get rest place)

abbrev pub made_ready : Ready → ℕ → Option Awaited → List Awaited → List Awaited
made_ready r place None rest = rest
made_ready r place (Some a) rest = slice_set rest place (record a { ready = r })

-- One guard more is the first that waits for this, or is at a place among others.
abbrev pub with_guard : Source → Ready → ℕ → Option ℕ → List Awaited → List Awaited
with_guard s r number None rest = rest ++ record { source = s; ready = r; first = number } ∷ []
with_guard s r number (Some place) rest = made_ready r place (slice_get rest place) rest

-- ---- conditions

-- the first word that is free where this is kept
abbrev pub above : Ready → ℕ → ℕ
above may.Never top = top
above may.Always top = top
above (may.If w) top = max top (word_after w 1)

-- One of some guards has a condition in A, which is kept in a word that is free, or with others in theirs.
abbrev pub either_code : Ready → ℕ → List Piece
either_code may.Never w = stores w ∷ []
either_code may.Always w = []
either_code (may.If kept) w = loads kept ∷ operates OR ∷ stores kept ∷ []

abbrev pub either_ready : Ready → ℕ → Ready
either_ready may.Never w = may.If w
either_ready may.Always w = may.Always
either_ready (may.If kept) w = may.If kept

-- A condition that is a constant has no code.
abbrev pub unless_constant : Option ℤ → List Piece → List Piece
unless_constant None code = code
unless_constant (Some v) code = []

abbrev pub ready_code : List Home → List Entry → ℕ → Ready → Option Expression → List Piece
ready_code hs es t others None = []
ready_code hs es t others (Some e) =
    unless_constant (exact_value (bound_of es e)) (expression_code hs es t e ++ either_code others t)

abbrev pub ready_by : Option ℤ → Ready → ℕ → Ready
ready_by None others t = either_ready others t
ready_by (Some v) others t = if int_eq v (pos 0) then others else may.Always

-- whether guards may be chosen: one with this condition, if it has one, and others
abbrev pub ready_with : List Entry → ℕ → Ready → Option Expression → Ready
ready_with es t others None = may.Always
ready_with es t others (Some e) = ready_by (exact_value (bound_of es e)) others t

-- ---- waiting

abbrev pub labels_from : ℕ → Labels
labels_from n = record { end = n; chosen = n + 1; first = n + 2 }

abbrev pub exits_of : Labels → Option ℕ → ℕ → Exits
exits_of l next number = record { here = l.first + number; next = option_map (λ n. l.first + n) next; end = l.end }

abbrev pub flag : Ready → Piece
flag may.Never = constant (pos 0)
flag may.Always = constant (pos 1)
flag (may.If w) = loads w

abbrev pub enabling : Source → ℤ
enabling awaits.Skip = ENABLE_SKIP
enabling s = ENABLE_CHANNEL

abbrev pub disabling : Source → ℤ
disabling awaits.Skip = DISABLE_SKIP
disabling s = DISABLE_CHANNEL

abbrev pub enabling_code : Awaited → List Piece
enabling_code a = source_code a.source ++ flag a.ready ∷ operates (enabling a.source) ∷ []

abbrev pub disabling_code : Labels → Awaited → List Piece
disabling_code l a =
    source_code a.source
    ++ flag a.ready ∷ Distance l.chosen (l.first + a.first) ∷ operates (disabling a.source) ∷ []

abbrev pub all_enabling : List Awaited → List Piece
all_enabling [] = []
all_enabling (a ∷ rest) = enabling_code a ++ all_enabling rest

abbrev pub all_disabling : Labels → List Awaited → List Piece
all_disabling l [] = []
all_disabling l (a ∷ rest) = disabling_code l a ++ all_disabling l rest

abbrev pub targets_of : Labels → List Awaited → List ℕ
targets_of l rest = map (λ (a : Awaited). l.first + a.first) rest

abbrev pub waiting_code : Labels → List Awaited → List Piece
waiting_code l rest =
    operates ALTERNATE ∷ all_enabling rest
    ++ operates ALTERNATION_WAIT ∷ all_disabling l rest ++ Select (targets_of l rest) ∷ []

-- Without a guard the process stops.
abbrev pub choosing_code : Labels → List Awaited → List Piece
choosing_code l [] = operates STOP_PROCESS ∷ Place l.chosen ∷ []
choosing_code l (a ∷ rest) = waiting_code l (a ∷ rest) ++ Place l.chosen ∷ []
