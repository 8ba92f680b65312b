-- What a process leaves of the indices of the loops around it: what they were.
use Rattle.std.proofs.Common.{◌≡◌, ℕ, suc, ℤ, Bool, true, false, cond, List, [], ◌∷◌, length, Option, Some, None, Ok}
use Rattle.std.proofs.Common.{refl, sym, ap, subst, ◌∙◌, arith}
use Rattle.std.specs.Prelude.{nat_eq, nat_lt, option_and_then}
use Rattle.word_arithmetic.specs.Range.{full}
use Rattle.occam_parser.specs.Lines.{Action, Assign, Input, Instance, Output, Place, Skip, Stop}
use Rattle.scalar_ranges.specs.declared.types.ExprType.{ExprType}
use Rattle.scalar_ranges.specs.declared.scope.ScalarKind.TheVariants as scalar
use Rattle.scalar_ranges.specs.Entries.{Entry, Meaning, Scalar, meaning_in}
use Rattle.scalar_ranges.specs.Environments.{Environment, Held, Meets}
use Rattle.scalar_ranges.specs.MoveLaws.{meaning_at, put, shape}
use Rattle.scalar_ranges.specs.Moves.{outermost}
use Rattle.scalar_ranges.specs.Narrowing.{with_range}
use Rattle.scalar_ranges.specs.Steps.{both_some}
use Rattle.scalar_ranges.specs.Values.{number_of}
use Rattle.scalar_ranges.proofs.MoveLaws.{as_long, shape_long}
use Rattle.scalar_ranges.proofs.Named.{meaning_found}
use Rattle.program_uses.specs.declared.uses.Direction.TheVariants as direction
use Rattle.program_uses.specs.Places.{is_subscripted}
use Rattle.program_uses.specs.Signatures.{Parameter}
use Rattle.program_meaning.specs.Links.{Port, message_length, received}
use Rattle.program_meaning.specs.Running.{port_of}
use Rattle.program_meaning.specs.Storing.{held_after, number_held, stored}
use Rattle.program_meaning.specs.Doing.{AllWell, Asks, Doing, Fails, Halts, Leaves, Sends, acting, asking, or_fails}
use Rattle.program_meaning.specs.Doing.{sending}
use Rattle.program_meaning.proofs.NumbersStored.{numbers_agree}
use Rattle.usage_checks.specs.Holding.{ActionHolds}
use Rattle.usage_checks.specs.PlaceRules.{target_at, target_type}

-- ---- what a tree leaves, if it leaves anything

abbrev pub WhatLeaves : (Environment → Type 0) → Doing → Type 0
WhatLeaves Holds (Leaves env) = Holds env
WhatLeaves Holds Halts = Unit {0}
WhatLeaves Holds Fails = Unit {0}
WhatLeaves Holds (Asks port next) =
    (bytes : List ℕ) → length bytes ≡ message_length port.carries → WhatLeaves Holds (next bytes)
WhatLeaves Holds (Sends port message next) = WhatLeaves Holds next

pub all_leaves : (Holds : Environment → Type 0) (t : Doing) → AllWell Holds t → WhatLeaves Holds t
all_leaves Holds (Leaves env) well = well
all_leaves Holds Halts well = tt
all_leaves Holds Fails well = tt
all_leaves Holds (Asks port next) well = λ bytes long. all_leaves Holds (next bytes) (well bytes long)
all_leaves Holds (Sends port message next) well = all_leaves Holds next well

-- ---- indices

-- the index of a loop holds what it held
abbrev pub IsKeptIndex : Meaning → Held → Held → Type 0
IsKeptIndex (Scalar scalar.Index type range) old new = old ≡ new
IsKeptIndex m old new = Unit {0}

-- so does each among these names
abbrev pub IndicesStay : List Entry → Environment → Environment → Type 0
IndicesStay [] [] [] = Unit {0}
IndicesStay (e ∷ es) (b ∷ bs) (d ∷ ds) = IsKeptIndex e.meaning b.held d.held × IndicesStay es bs ds
IndicesStay es old new = ⊥

index_same : (k : Meaning) (held : Held) → IsKeptIndex k held held
index_same (Scalar scalar.Index type range) held = refl
index_same k held = tt

pub indices_same : (es : List Entry) (env : Environment) → length es ≡ length env → IndicesStay es env env
indices_same [] [] long = tt
indices_same [] (b ∷ bs) long = absurd (cc long)
indices_same (e ∷ es) [] long = absurd (cc long)
indices_same (e ∷ es) (b ∷ bs) long = (index_same e.meaning b.held, indices_same es bs (omega (arith, long)))

index_then : (k : Meaning) (x y z : Held) → IsKeptIndex k x y → IsKeptIndex k y z → IsKeptIndex k x z
index_then (Scalar scalar.Index type range) x y z first second = first ∙ second
index_then k x y z first second = tt

pub indices_then : (es : List Entry) (a b d : Environment) → IndicesStay es a b → IndicesStay es b d
    → IndicesStay es a d
indices_then [] [] [] [] first second = tt
indices_then [] [] [] (d ∷ ds) first second = absurd second
indices_then [] [] (b ∷ bs) d first second = absurd first
indices_then [] (a ∷ rest) b d first second = absurd first
indices_then (e ∷ es) [] b d first second = absurd first
indices_then (e ∷ es) (a ∷ rest) [] d first second = absurd first
indices_then (e ∷ es) (a ∷ rest) (b ∷ bs) [] first second = absurd second
indices_then (e ∷ es) (a ∷ rest) (b ∷ bs) (d ∷ ds) first second =
    (index_then e.meaning a.held b.held d.held first.0 second.0, indices_then es rest bs ds first.1 second.1)

pub indices_long : (es : List Entry) (a b : Environment) → IndicesStay es a b
    → (length es ≡ length a) × (length es ≡ length b)
indices_long [] [] [] stay = (refl, refl)
indices_long [] [] (b ∷ bs) stay = absurd stay
indices_long [] (a ∷ rest) b stay = absurd stay
indices_long (e ∷ es) [] b stay = absurd stay
indices_long (e ∷ es) (a ∷ rest) [] stay = absurd stay
indices_long (e ∷ es) (a ∷ rest) (b ∷ bs) stay =
    let further = indices_long es rest bs stay.1 in (ap suc further.0, ap suc further.1)

-- of the outermost names
pub indices_left : (n : ℕ) (es : List Entry) (a b : Environment) → IndicesStay es a b
    → IndicesStay (outermost n es) (outermost n a) (outermost n b)
indices_left n [] [] [] stay = tt
indices_left n [] [] (b ∷ bs) stay = absurd stay
indices_left n [] (a ∷ rest) b stay = absurd stay
indices_left n (e ∷ es) [] b stay = absurd stay
indices_left n (e ∷ es) (a ∷ rest) [] stay = absurd stay
indices_left n (e ∷ es) (a ∷ rest) (b ∷ bs) stay =
    let long = indices_long es rest bs stay.1 in
    subst (λ (i : ℕ). IndicesStay (cond (nat_lt (length es) n) (e ∷ es) (outermost n es))
    (cond (nat_lt i n) (a ∷ rest) (outermost n rest)) (cond (nat_lt (length bs) n) (b ∷ bs) (outermost n bs))) long.0
    (subst (λ (i : ℕ). IndicesStay (cond (nat_lt (length es) n) (e ∷ es) (outermost n es))
    (cond (nat_lt (length es) n) (a ∷ rest) (outermost n rest)) (cond (nat_lt i n) (b ∷ bs) (outermost n bs))) long.1
    (by_count (nat_lt (length es) n) (indices_left n es rest bs stay.1)))
  where
    by_count : (inside : Bool) → IndicesStay (outermost n es) (outermost n rest) (outermost n bs)
        → IndicesStay (cond inside (e ∷ es) (outermost n es)) (cond inside (a ∷ rest) (outermost n rest))
        (cond inside (b ∷ bs) (outermost n bs))
    by_count true further = stay
    by_count false further = further

pub shape_outermost : (n : ℕ) (es : List Entry) → shape (outermost n es) ≡ outermost n (shape es)
shape_outermost n [] = refl
shape_outermost n (e ∷ es) =
    by_count (nat_lt (length es) n) (shape_outermost n es)
    ∙ ap (λ i. cond (nat_lt i n) (shape (e ∷ es)) (outermost n (shape es))) (sym (shape_long es))
  where
    by_count : (inside : Bool) → shape (outermost n es) ≡ outermost n (shape es)
        → shape (cond inside (e ∷ es) (outermost n es)) ≡ cond inside (shape (e ∷ es)) (outermost n (shape es))
    by_count true further = refl
    by_count false further = further

-- ---- actions

-- it is no index
abbrev IsNoIndex : Option Meaning → Type 0
IsNoIndex (Some (Scalar scalar.Index type range)) = ⊥
IsNoIndex m = Unit {0}

put_index : (k : Meaning) (old new : Held) → IsNoIndex (Some k) → IsKeptIndex (with_range (λ r. full) k) old new
put_index (Scalar scalar.Index type range) old new other = absurd other
put_index (Scalar kind type range) old new other = tt
put_index k old new other = tt

puts_stay : (n : ℕ) (held : Held) (es : List Entry) (env : Environment) → length es ≡ length env
    → IsNoIndex (meaning_at n es) → IndicesStay (shape es) env (put n held env)
puts_stay n held [] [] long other = tt
puts_stay n held [] (b ∷ bs) long other = absurd (cc long)
puts_stay n held (e ∷ es) [] long other = absurd (cc long)
puts_stay n held (e ∷ es) (b ∷ bs) long other =
    let rest : length es ≡ length bs = omega (arith, long) in
    subst (λ (i : ℕ). IndicesStay (shape (e ∷ es)) (b ∷ bs)
    (cond (nat_eq i n) (record { name = b.name; held = held } ∷ bs) (b ∷ put n held bs))) rest
    (by_number (nat_eq (length es) n) rest other (puts_stay n held es bs rest))
  where
    by_number : (here : Bool) → length es ≡ length bs → IsNoIndex (cond here (Some e.meaning) (meaning_at n es))
        → (IsNoIndex (meaning_at n es) → IndicesStay (shape es) bs (put n held bs))
        → IndicesStay (shape (e ∷ es)) (b ∷ bs)
        (cond here (record { name = b.name; held = held } ∷ bs) (b ∷ put n held bs))
    by_number true rest other further =
        (put_index e.meaning b.held held other, indices_same (shape es) bs (shape_long es ∙ rest))
    by_number false rest other further =
        (index_same (with_range (λ r. full) e.meaning) b.held, further other)

target_no_index : (m : Option Meaning) (subscripted : Bool) (t : ExprType) → target_type m subscripted ≡ Ok t
    → IsNoIndex m
target_no_index (Some (Scalar scalar.Index type range)) true t is = absurd (cc is)
target_no_index (Some (Scalar scalar.Index type range)) false t is = absurd (cc is)
target_no_index m subscripted t is = tt

stored_stays : (es : List Entry) (env after : Environment) (target : Place) (v : ℤ) (t : ExprType) → Meets env es
    → target_at es target ≡ Ok t → stored env target v ≡ Some after → IndicesStay (shape es) env after
stored_stays es env after target v t meets type is =
    by_number (number_held target.name env) (held_after env target v) refl is
  where
    by_number : (o : Option ℕ) (h : Option Held) → number_held target.name env ≡ o
        → both_some o h (λ n held. Some (put n held env)) ≡ Some after → IndicesStay (shape es) env after
    by_number None h number is = absurd (cc is)
    by_number (Some n) None number is = absurd (cc is)
    by_number (Some n) (Some held) number is =
        let same : put n held env ≡ after = cc is in
        let there = sym (numbers_agree target.name es env meets) ∙ number in
        let other = target_no_index (meaning_in target.name es) (is_subscripted target.subscript) t type in
        subst (IndicesStay (shape es) env) same
        (puts_stay n held es env (sym (as_long env es meets))
        (subst IsNoIndex (meaning_found target.name n es there) other))

or_fails_leaves : (Holds : Environment → Type 0) (o : Option Environment)
    → ((after : Environment) → o ≡ Some after → Holds after) → WhatLeaves Holds (or_fails o Leaves)
or_fails_leaves Holds None all = tt
or_fails_leaves Holds (Some after) all = all after refl

pub action_leaves : (signatures : List (List Parameter)) (es : List Entry) (env : Environment)
    (ports : List (Option Port)) (action : Action) → Meets env es → ActionHolds signatures es action
    → WhatLeaves (IndicesStay (shape es) env) (acting ports action env)
action_leaves signatures es env ports Skip meets right =
    indices_same (shape es) env (shape_long es ∙ sym (as_long env es meets))
action_leaves signatures es env ports Stop meets right = tt
action_leaves signatures es env ports (Instance name actuals) meets right = tt
action_leaves signatures es env ports (Assign target value) meets right =
    by_value (number_of env value)
  where
    by_value : (o : Option ℤ)
        → WhatLeaves (IndicesStay (shape es) env) (or_fails (option_and_then (stored env target) o) Leaves)
    by_value None = tt
    by_value (Some v) =
        or_fails_leaves (IndicesStay (shape es) env) (stored env target v)
        (λ after is. stored_stays es env after target v right.0 meets right.2.type_is is)
action_leaves signatures es env ports (Input channel target) meets right =
    by_port (port_of ports env direction.Input channel)
  where
    by_port : (o : Option Port) → WhatLeaves (IndicesStay (shape es) env) (asking o target env)
    by_port None = tt
    by_port (Some p) = λ bytes long.
        or_fails_leaves (IndicesStay (shape es) env) (stored env target (received p.carries bytes))
        (λ after is. stored_stays es env after target (received p.carries bytes) right.0 meets right.2.type_is is)
action_leaves signatures es env ports (Output channel value) meets right =
    by_value (number_of env value)
  where
    by_port : (o : Option Port) (v : ℤ) → WhatLeaves (IndicesStay (shape es) env) (sending o v env)
    by_port None v = tt
    by_port (Some p) v = indices_same (shape es) env (shape_long es ∙ sym (as_long env es meets))

    by_value : (o : Option ℤ) → WhatLeaves (IndicesStay (shape es) env)
        (or_fails o (λ v. sending (port_of ports env direction.Output channel) v env))
    by_value None = tt
    by_value (Some v) = by_port (port_of ports env direction.Output channel) v
