use Rattle.std.proofs.Common.{rules, ◌≡◌, ◌++◌, ◌∷◌, [], length, List, true, is_ok, sym, ap, ◌∙◌, set, subst, ℕ}
use Rattle.states.specs.declared.overlay.Written.{Written}
use Rattle.states.specs.Lookup.{ArePlaced, lookup}
use Rattle.states.proofs.Lookups.{ArePlaced-set, lookup-set, ArePlaced-push, lookup-push, room-for-one}
use Rattle.states.proofs.Touched.{touched-put}
use Rattle.states.proofs.overlay.Overlay.put.Goals as goal
use Rattle.states.proofs.overlay.Overlay.put.Goals.{After-push}

pub invariant_of-self-clause-placed : goal.invariant_of-self-clause-placed
invariant_of-self-clause-placed c =
    ArePlaced-set c.args.self.now.places.items c.args.self.now.written.items c.in-Some.place
    (record { index = c.args.index; fact = c.args.fact })
    c.args.self.now.placed (search rules) (search rules)

pub returns-in-Some-clause-facts : goal.returns-in-Some-clause-facts
returns-in-Some-clause-facts c = λ j.
    lookup-set c.args.self.now.places.items c.args.self.now.written.items c.in-Some.place
    (record { index = c.args.index; fact = c.args.fact }) j
    c.args.self.now.placed (search rules) (search rules)

pub unwrap-requires : goal.unwrap-requires
unwrap-requires c =
    let room = room-for-one c.args.self.now.places.items c.args.self.now.written.items
    (record { index = c.args.index; fact = c.args.fact })
    c.args.self.now.placed c.in-None.ensures.none (search rules) in
    c.push.ensures.succeeds (search rules)

-- a push with room to spare adds the fact
pushed : (c : After-push) → c.push.new.self.items ≡ c.args.self.now.written.items
    ++ record { index = c.args.index; fact = c.args.fact } ∷ []
pushed c =
    let room = room-for-one c.args.self.now.places.items c.args.self.now.written.items
    (record { index = c.args.index; fact = c.args.fact })
    c.args.self.now.placed c.in-None.ensures.none (search rules) in
    let ok : is_ok c.push.result ≡ true = c.push.ensures.succeeds (search rules) in
    rw ok at c.push.ensures.items

pub invariant_of-self-in-None-clause-placed : goal.invariant_of-self-in-None-clause-placed
invariant_of-self-in-None-clause-placed c =
    let len : c.len.result ≡ length c.args.self.now.written.items = search rules in
    subst (λ (ws : List Written). ArePlaced (set c.args.self.now.places.items c.args.index c.len.result) ws)
    (sym (pushed c))
    (subst (λ (n : ℕ). ArePlaced (set c.args.self.now.places.items c.args.index n)
    (c.args.self.now.written.items ++ record { index = c.args.index; fact = c.args.fact } ∷ [])) (sym len)
    (ArePlaced-push c.args.self.now.places.items c.args.self.now.written.items
    (record { index = c.args.index; fact = c.args.fact })
    c.args.self.now.placed c.in-None.ensures.none (search rules)))

pub returns-in-None-clause-facts : goal.returns-in-None-clause-facts
returns-in-None-clause-facts c = λ j.
    ap (λ ws. lookup ws j) (pushed (goal.at.returns-in-None-clause-facts c).After-push)
    ∙ lookup-push c.args.self.now.written.items
    (record { index = c.args.index; fact = c.args.fact }) j c.in-None.ensures.none

pub invariant_of-self-clause-noted : goal.invariant_of-self-clause-noted
invariant_of-self-clause-noted c =
    touched-put c.args.self.now.touched.items c.args.self.now.written.items _ c.args.index c.args.fact
    c.requires.touched c.args.self.now.noted
    (λ j. lookup-set c.args.self.now.places.items c.args.self.now.written.items c.in-Some.place
    (record { index = c.args.index; fact = c.args.fact }) j
    c.args.self.now.placed (search rules) (search rules))

pub invariant_of-self-in-None-clause-noted : goal.invariant_of-self-in-None-clause-noted
invariant_of-self-in-None-clause-noted c =
    touched-put c.args.self.now.touched.items c.args.self.now.written.items _ c.args.index c.args.fact
    c.requires.touched c.args.self.now.noted
    (λ j. ap (λ ws. lookup ws j) (pushed (goal.at.invariant_of-self-in-None-clause-noted c).After-push)
    ∙ lookup-push c.args.self.now.written.items
    (record { index = c.args.index; fact = c.args.fact }) j c.in-None.ensures.none)
