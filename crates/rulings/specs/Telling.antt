-- What the functions of the code return, in terms of the rules.
use Rattle.std.specs.Prelude.{◌≡◌, ℕ, Result, Ok, Err}
use Rattle.states.specs.declared.rule.Rule.{Rule}
use Rattle.states.specs.State.{State}
use Rattle.rulings.specs.declared.continuation.Continuation.{Continuation}
use Rattle.rulings.specs.declared.continuation.Continuation.TheVariants.{Falls, Leads, FallsOrLeads, Calls, Returns}
use Rattle.rulings.specs.declared.continuation.Continuation.TheVariants.{Ends}
use Rattle.rulings.specs.Rulings.{Ruling, falls, leads, falls_or_leads, calls, returns, ends, breaks}

-- a test passes, or it alone decides the ruling
abbrev pub Admits : {A : Type 0} → Result A Rule → (Ruling → Ruling) → Type 0
Admits (Ok x) test = (k : Ruling) → test k ≡ k
Admits (Err broken) test = (k : Ruling) → test k ≡ breaks broken

-- a test gives a value, or it alone decides the ruling
abbrev pub Gives : {A B : Type 0} → (A → B) → Result A Rule → ((B → Ruling) → Ruling) → Type 0
Gives {A} {B} view (Ok x) test = (k : B → Ruling) → test k ≡ k (view x)
Gives {A} {B} view (Err broken) test = (k : B → Ruling) → test k ≡ breaks broken

-- a test leaves a state, or it alone decides the ruling
abbrev pub Leaves : {A : Type 0} → Result A Rule → State → ((State → Ruling) → Ruling) → Type 0
Leaves (Ok x) after test = (k : State → Ruling) → test k ≡ k after
Leaves (Err broken) after test = (k : State → Ruling) → test k ≡ breaks broken

-- a state was taken on as the ruling says
abbrev pub Advances : Result Continuation Rule → State → Ruling → Type 0
Advances (Ok Falls) after ruling = ruling ≡ falls after
Advances (Ok (Leads to)) after ruling = ruling ≡ leads to
Advances (Ok (FallsOrLeads to)) after ruling = ruling ≡ falls_or_leads after to
Advances (Ok (Calls to)) after ruling = ruling ≡ calls to after
Advances (Ok Returns) after ruling = ruling ≡ returns
Advances (Ok Ends) after ruling = ruling ≡ ends
Advances (Err broken) after ruling = ruling ≡ breaks broken

-- a state may go on at a label, or after the instruction in another state; or a rule is broken, whatever that other
-- state is
abbrev pub Forks : {A : Type 0} → Result A Rule → ℕ → (State → Ruling) → Type 0
Forks (Ok x) to forks = (here : State) → forks here ≡ falls_or_leads here to
Forks (Err broken) to forks = (here : State) → forks here ≡ breaks broken
