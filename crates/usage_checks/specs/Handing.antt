-- The rule of what an instance passes twice.
use Rattle.std.specs.Prelude.{◌≡◌, ℕ, suc, nat_eq, Bool, true, false, ◌&&◌, List, [], ◌∷◌, ◌++◌, ◌⊎◌, Option}
use Rattle.std.specs.Prelude.{Some, None}
use Rattle.std.specs.List.{list_any}
use Rattle.occam_parser.specs.Expressions.{Expression}
use Rattle.occam_parser.specs.Lines.{Place, Action, Skip, Stop, Assign, Input, Output, Instance}
use Rattle.scalar_ranges.specs.declared.scope.ArrayKind.TheVariants as array
use Rattle.scalar_ranges.specs.Entries.{Meaning, Array, Entry, meaning_in}
use Rattle.scalar_ranges.specs.Environments.{item_at}
use Rattle.program_uses.specs.declared.faults.TheConstants.{PASSED_TWICE}
use Rattle.program_uses.specs.declared.places.Spot.{Spot}
use Rattle.program_uses.specs.declared.signature.Passing.{Passing}
use Rattle.program_uses.specs.declared.signature.Passing.TheVariants as passing
use Rattle.program_uses.specs.Places.{spot_of}
use Rattle.program_uses.specs.Signatures.{Parameter, passing_of, parameters_in}
use Rattle.program_uses.specs.Instances.{place_in, variable_at, array_at}
use Rattle.usage_checks.specs.declared.handing.Handed.{Handed}
use Rattle.usage_checks.specs.declared.handing.Handed.TheVariants as handed

abbrev pub handed_if : (ℕ → Handed) → Option ℕ → Handed
handed_if as_handed None = handed.Nothing
handed_if as_handed (Some n) = as_handed n

abbrev pub element_if : Option Spot → Handed
element_if None = handed.Nothing
element_if (Some s) = handed.Element s

-- a VAL parameter that is an array
abbrev pub are_values : Meaning → Bool
are_values (Array array.Value type size range) = true
are_values m = false

-- what is passed by its name: a variable or an array of channels, the values of an array, or a channel
abbrev pub handed_as : Bool → Passing → List Entry → Place → Handed
handed_as true passing.Value es p = handed_if handed.Values (variable_at es p)
handed_as false passing.Value es p = handed.Nothing
handed_as values passing.Variable es p = handed_if handed.Whole (variable_at es p)
handed_as values passing.Channel es p = element_if (spot_of es p)
handed_as values passing.Channels es p = handed_if handed.Whole (array_at es p)

abbrev pub handed_to : Meaning → List Entry → Option Place → Handed
handed_to m es None = handed.Nothing
handed_to m es (Some p) = handed_as (are_values m) (passing_of m) es p

abbrev pub handed_by : List Entry → Option Parameter → Expression → Handed
handed_by es None e = handed.Nothing
handed_by es (Some q) e = handed_to q.meaning es (place_in e)

-- from a place on, each with the parameter at its place
abbrev pub handed_all : List Entry → List Parameter → ℕ → List Expression → List Handed
handed_all es qs i [] = []
handed_all es qs i (e ∷ actuals) = handed_by es (item_at i qs) e ∷ handed_all es qs (suc i) actuals

-- What is passed as a variable or as an array of channels is not passed again, not even its values or one of its
-- elements. An element, or a channel, is not passed again either. Values are.
abbrev pub collide : Handed → Handed → Bool
collide (handed.Whole m) (handed.Whole n) = nat_eq m n
collide (handed.Whole m) (handed.Values n) = nat_eq m n
collide (handed.Whole m) (handed.Element s) = nat_eq m s.channel
collide (handed.Values m) (handed.Whole n) = nat_eq m n
collide (handed.Element s) (handed.Whole n) = nat_eq s.channel n
collide (handed.Element s) (handed.Element t) = nat_eq s.channel t.channel && nat_eq s.element t.element
collide h k = false

-- O18
abbrev pub IsAgain : List Handed → Handed → ℕ → Type 0
IsAgain before h n = (list_any (collide h) before ≡ true) × (n ≡ PASSED_TWICE)

-- each, with those before it
abbrev pub AreAgain : List Handed → List Handed → ℕ → Type 0
AreAgain before [] n = ⊥
AreAgain before (h ∷ hs) n = IsAgain before h n ⊎ AreAgain (before ++ h ∷ []) hs n

abbrev pub PassesTwice : List (List Parameter) → List Entry → Action → ℕ → Type 0
PassesTwice signatures es Skip n = ⊥
PassesTwice signatures es Stop n = ⊥
PassesTwice signatures es (Assign target value) n = ⊥
PassesTwice signatures es (Input channel target) n = ⊥
PassesTwice signatures es (Output channel value) n = ⊥
PassesTwice signatures es (Instance name actuals) n =
    AreAgain [] (handed_all es (parameters_in signatures (meaning_in name es)) 0 actuals) n
