-- The invariant holds of the loaded world.
use Rattle.std.proofs.Common.{◌≡◌, ℕ, zero, suc, ◌+◌, ◌*◌, ◌≤◌, ◌<◌, ◌≤ℤ◌, ◌<ℤ◌, ◌+ℤ◌, ◌-ℤ◌, neg_ℤ, Bool, true, false}
use Rattle.std.proofs.Common.{if◌then◌else◌, ltb, ◌&&◌, ◌||◌, ℤ, pos, List, [], ◌∷◌, length, replicate, Some}
use Rattle.std.proofs.Common.{Option, None, refl, sym, ap, ◌∙◌, subst, arith}
use Rattle.std.proofs.lemmas.List.{length-append, length-map, length-replicate}
use Rattle.std.proofs.lemmas.Bool.{le-leb, and_parts}
use Rattle.std.proofs.lemmas.Int.{ints}
use Rattle.std.specs.Prelude.{slice_get, int_le, int_lt, option_map, ◌-◌, ◌/◌, ◌%◌}
use Rattle.small_laws.proofs.Comparisons.{int_le-true, int_lt-true, pos_from}
use Rattle.module_format.specs.declared.contexts.Context.{Context}
use Rattle.module_format.specs.Contents.{Contents, Par, link_length}
use Rattle.certificate.specs.Rights.{has_word}
use Rattle.module_format.specs.Contexts.{root_context, own_context, branch_count, owner, context_at, own_parameters}
use Rattle.module_format.specs.Contexts.{parameters_at}
use Rattle.machine_state.specs.declared.process.Mode.TheVariants as machine_modes
use Rattle.machine_state.specs.Memory.{data_start}
use Rattle.machine_state.specs.Holding.{may_write, may_write_word, has_end}
use Rattle.machine_state.specs.World.{padding, loaded_memory, root_holding, root_task, root_role, Role, loaded}
use Rattle.machine_state.specs.World.{link_words, quiet_links}
use Rattle.machine_state.specs.Site.{Local}
use Rattle.states.specs.State.{unknown, root_state}
use Rattle.certified_worlds.specs.Certified.{begins, IsCertified}
use Rattle.rulings.specs.Meaning.{owed, Activation, means_unknown, nothing_known, place_in, IsOwnWord, words_in}
use Rattle.rulings.specs.Meaning.{HasFrame, frame_lo, frame_hi, from_nowhere, MeansKnown, both_plain, IsWellFormed}
use Rattle.certified_worlds.specs.Point.{Began, Behind, nobody_waits, owed_behind, Decodes}
use Rattle.certified_worlds.specs.Lives.{Meets, it_lives}
use Rattle.rulings.proofs.Within.{is_starting}
use Rattle.certified_worlds.proofs.StartedWorlds.{plain_beside}
use Rattle.verifier.proofs.Tables.{AreBytes}
use Rattle.rulings.specs.Regions.{kind_used, parameter_used}
use Rattle.machine_state.specs.declared.holding.End.{End}
use Rattle.machine_state.specs.declared.process.Task.{Task}
use Rattle.machine_state.specs.declared.link.InputLink.{InputLink}
use Rattle.module_format.specs.declared.rows.Parameter.{Parameter}
use Rattle.certified_worlds.specs.Invariant.{Holds, LengthsAgree, at_link}
use Rattle.verifier.proofs.RootHolds.{root_constants, root_bytes}
use Rattle.verifier.proofs.RootEnds.{root_ends, root_lengths, root_differ, held_link}
use Rattle.rulings.specs.Fitting.{After}
use Rattle.rulings.proofs.Addresses.{stepped}
use Rattle.rulings.proofs.Dues.{nothing_due}
use Rattle.rulings.proofs.Combining.{readable}
use Rattle.certified_worlds.proofs.Steps.{enter, entered_behind, lives_at}

-- no branch comes before the root
owner_of_root : (first : ℕ) (rows : List Par) → 0 < first → owner first rows 0 ≡ 0
owner_of_root first [] some = refl
owner_of_root first (row ∷ rows) some =
    let rest = owner_of_root (first + length row.branches) rows (omega arith) in
    ap (λ n. if ltb n first then n else row.context) rest
    ∙ ap (λ (b : Bool). if b then 0 else row.context) (le-leb 1 first some)

root_is : (m : Contents) → context_at m 0 ≡ Some (root_context m)
unfolding context_at
root_is m =
    let first : ℕ = 1 + length m.procedures in
    ap (λ (b : Bool). if b then own_context m (owner first m.pars 0) else None)
    (le-leb 1 (first + branch_count m.pars) (omega arith))
    ∙ ap (own_context m) (owner_of_root first m.pars (omega arith))

root_has_none : (m : Contents) → parameters_at m 0 ≡ []
unfolding parameters_at
root_has_none m =
    let first : ℕ = 1 + length m.procedures in
    ap (λ (b : Bool). if b then own_parameters m (owner first m.pars 0) else [])
    (le-leb 1 (first + branch_count m.pars) (omega arith))
    ∙ ap (own_parameters m) (owner_of_root first m.pars (omega arith))

nothing_at : (j : ℕ) (p : Parameter) → slice_get [] j ≡ Some p → ⊥
nothing_at zero p h = cc
nothing_at (suc j) p h = cc

memory_length : (m : Contents) → length (loaded_memory m) ≡ 4 * m.data_words + length m.code + padding
    (length m.code) + length m.constants
memory_length m = simp (length-append, length-map, length-replicate)

data_inside : (m : Contents) → 4 * m.data_words ≤ length (loaded_memory m)
data_inside m = rw (memory_length m) (omega arith)

-- the root may write the data area
root_writes : (m : Contents) (place : ℕ) → place < 4 * m.data_words → may_write (root_holding m) place ≡ true
root_writes m place low =
    ap (λ (b : Bool). (b && ltb place (4 * m.data_words)) || false) (le-leb 0 place (omega arith))
    ∙ ap (λ (b : Bool). b || false) (le-leb (suc place) (4 * m.data_words) low)

root_writes_word : (m : Contents) (place : ℕ) → place + 4 ≤ 4 * m.data_words
    → may_write_word (root_holding m) place ≡ true
unfolding may_write_word
root_writes_word m place low =
    ap (λ (b : Bool). b && may_write (root_holding m) (place + 1) && may_write (root_holding m) (place + 2)
    && may_write (root_holding m) (place + 3)) (root_writes m place (omega arith))
    ∙ ap (λ (b : Bool). b && may_write (root_holding m) (place + 2) && may_write (root_holding m) (place + 3))
    (root_writes m (place + 1) (omega arith))
    ∙ ap (λ (b : Bool). b && may_write (root_holding m) (place + 3)) (root_writes m (place + 2) (omega arith))
    ∙ root_writes m (place + 3) (omega arith)

-- the root's words are its own
root_word : (m : Contents) (k : ℤ) → has_word (context_at m 0) k ≡ true
    → IsOwnWord (root_holding m) (length (loaded_memory m)) (pos (4 * m.base)) k
root_word m k h =
    let inside : has_word (Some (root_context m)) k ≡ true = subst (λ c. has_word c k ≡ true) (root_is m) h in
    let both = and_parts (int_le (root_context m).lo k) (int_lt k (root_context m).hi) inside in
    let low : neg_ℤ (pos m.base) ≤ℤ k = int_le-true (neg_ℤ (pos m.base)) k both.0 in
    let high : k <ℤ (pos m.data_words -ℤ pos m.base) = int_lt-true k (pos m.data_words -ℤ pos m.base) both.1 in
    let n = pos_from (pos m.base +ℤ k) (omega (arith, ints)) in
    let place : ℕ = 4 * n.0 in
    let fits : 4 * n.0 + 4 ≤ 4 * m.data_words = omega (arith, ints, n.1) in
    record {
      place = 4 * n.0;
      is = omega (arith, ints, n.1);
      inside = omega (arith, data_inside m);
      mine = root_writes_word m (4 * n.0) fits;
    }

root_lo : (m : Contents) → frame_lo m 0 ≡ neg_ℤ (pos m.base)
root_lo m = ap (λ (c : Option Context). elim c as (λ c. ℤ) [ None ↦ pos 0 | Some context ↦ context.lo ]) (root_is m)

root_hi : (m : Contents) → frame_hi m 0 ≡ pos m.data_words -ℤ pos m.base
root_hi m = ap (λ (c : Option Context). elim c as (λ c. ℤ) [ None ↦ pos 0 | Some context ↦ context.hi ]) (root_is m)

root_frame : (m : Contents) → IsWellFormed m
    → HasFrame (root_holding m) (length (loaded_memory m)) (words_in m 0) (pos (4 * m.base)) (pos 0)
    (data_start + 4 * m.base)
root_frame m wf = record {
  small = rw (memory_length m) (omega (arith, wf.few_words, wf.short_code, wf.few_constants));
  from_start = subst (λ (k : ℤ). pos 0 ≤ℤ place_in (pos (4 * m.base)) k) (sym (root_lo m)) (omega (arith, ints));
  to_end = subst (λ (k : ℤ). place_in (pos (4 * m.base)) k ≤ℤ pos (length (loaded_memory m))) (sym (root_hi m))
      (omega (arith, ints, data_inside m));
  own = λ k h. root_word m k (and_parts _ _ h).0;
  readable = λ k h.
      let w = root_word m k (and_parts _ _ h).0 in
      record { place = w.place; is = w.is; inside = w.inside; readable = readable (root_holding m) w.place w.mine };
  start = omega (arith, ints);
}

-- in a list of one
only : {A : Type 0} (x y : A) (p : ℕ) → slice_get (x ∷ []) p ≡ Some y → (p ≡ 0) × (x ≡ y)
only x y zero h = (refl, cc)
only x y (suc p) h = absurd (cc)

module _ (m : Contents) (d : Decodes m) (wf : IsWellFormed m) (c : IsCertified m) where
  abbrev root_local : Local
  root_local = record { registers = (root_task m).registers; memory = loaded_memory m }

  -- the root has no parameters, returns nowhere, is in no loop, and knows how long messages on links are
  abbrev root_activation : Activation
  root_activation = record {
    layout = record {
      origin = pos (4 * m.base);
      starts = λ j. 0;
      back = 0;
      lengths = λ address. link_length m ((address - link_words) / 4);
    };
    turns = λ k. 0;
  }

  -- nothing is known of a register
  nothing_there : MeansKnown m (words_in m 0).reads root_activation.layout (loaded_memory m) unknown None
  nothing_there = record { fact = means_unknown m root_activation.layout None; source = from_nowhere }

  no_parameter : (j : ℕ) (p : Parameter) → parameter_used m 0 j ≡ Some p → ⊥
  no_parameter j p found = none_at j p (sym (ap (λ (ps : List Parameter).
      option_map (λ (q : Parameter). record q { kind = kind_used m 0 j q.kind }) (slice_get ps j)) (root_has_none m))
      ∙ found)
    where
      none_at : (j : ℕ) (p : Parameter)
          → option_map (λ (q : Parameter). record q { kind = kind_used m 0 j q.kind }) (slice_get [] j) ≡ Some p → ⊥
      none_at j p found = on (slice_get [] j) refl found
        where
          on : (o : Option Parameter) → slice_get [] j ≡ o
              → option_map (λ (q : Parameter). record q { kind = kind_used m 0 j q.kind }) o ≡ Some p → ⊥
          on None e h = cc
          on (Some q) e h = nothing_at j q e

  link_lengths : (link : ℕ) → link < 8
      → link_length m (((link_words + 4 * link) % 4294967296 - link_words) / 4) ≡ link_length m link
  link_lengths link low = ap (link_length m) (omega arith)

  root_after : After m (root_holding m) machine_modes.Plain root_activation (root_state m) root_local
  root_after = record {
    frame = root_frame m wf;
    knows = record {
      registers = record { a = nothing_there; b = nothing_there; c = nothing_there };
      words = λ k inside. nothing_known m root_activation k _;
    };
    named = record {
      each = λ j p found. absurd (no_parameter j p found);
      apart = λ j k p q found other differ. absurd (no_parameter j p found);
      constants = root_constants m;
      bytes = root_bytes m wf.constant_bytes;
      even = stepped (pos (4 * m.base)) (pos m.base) (omega (arith, ints));
      ends = λ kind direction given. root_ends m wf.eight root_activation.layout kind direction given;
      back = wf.some_code;
      lengths = λ kind direction given.
          root_lengths m wf.eight root_activation.layout link_lengths kind direction given;
      differ = λ a b direction given other same.
          root_differ m wf.eight root_activation.layout a b direction given other same;
    };
    same_mode = both_plain;
  }

  abbrev root_began : Began
  root_began = record { context = 0; layout = root_activation.layout }

  -- no caller waits for its return
  nobody_behind : Behind m (root_holding m) root_began 0 root_activation.layout (loaded_memory m) []
  nobody_behind = nobody_waits refl refl (λ some. absurd (omega arith))

  -- the root holds ends of links alone
  root_agrees : LengthsAgree m (root_role m ∷ []) (replicate m.data_words None) (root_began ∷ [])
  root_agrees p role start e has_role has_start held =
      let r = only (root_role m) role p has_role in
      let b = only root_began start p has_start in
      let link = held_link 0 m.lengths e
      (subst (λ (x : Role). has_end x.own e ≡ true) (sym r.1) held) in
      let low : link.link < 8 = let high = link.high in let eight = wf.eight in omega arith in
      at_link link.link low link.is (subst (λ (x : Began). link_length m link.link ≡ x.layout.lengths e.address) b.1
      (ap (link_length m) (let is = ap (λ (x : End). x.address) link.is in omega arith)))

  pub loaded_holds : Holds m (loaded m)
  loaded_holds =
      let en = enter m d wf c (root_holding m) machine_modes.Plain root_activation 0 (root_state m) begins
      wf.some_code in
      let lives = lives_at m d wf c (root_holding m) root_began machine_modes.Plain en.act 0
      (Some (root_state m)) en.state root_local [] begins wf.some_code en.stands (ap is_starting en.mode_is)
      (en.after root_local root_after)
      (entered_behind m d wf c en nobody_behind) in
      let due : ℕ = owed en.state en.act + owed_behind [] in
      record {
        dues = due ∷ [];
        pending_dues = 0 ∷ [];
        began = root_began ∷ [];
        counted = record { begun = refl; owing = refl; pending = refl };
        table = record {
          each = λ p t h.
              let x = only (root_task m) t p h in
              record {
                role = root_role m;
                has_role = ap (λ n. slice_get (root_role m ∷ []) n) x.0;
                start = root_began;
                has_start = ap (λ n. slice_get (root_began ∷ []) n) x.0;
                due = owed en.state en.act + owed_behind [];
                has_due = ap (λ n. slice_get (due ∷ []) n) x.0;
                root = λ none. refl;
                meets = subst (λ u. Meets m (root_holding m) root_began (loaded_memory m) u (due)) x.1
                    (it_lives lives.lives);
                alternating = λ alternates. absurd (plain_beside (root_plain p t h) alternates);
              };
        };
        pending = λ p role j h is.
            let no' : None ≡ Some j = ap (λ (r : Role). r.opened) (only (root_role m) role p h).1 ∙ is in absurd (cc);
        lengths = root_agrees;
        kept = quiet_links_keep_nothing;
        owed = let none = nothing_due root_activation.turns in omega (arith, en.paid, none);
        well = refl;
      }
    where
      root_plain : (p : ℕ) (t : Task) → slice_get (root_task m ∷ []) p ≡ Some t → t.mode ≡ machine_modes.Plain
      root_plain p t h = let x = only (root_task m) t p h in ap (λ (u : Task). u.mode) (sym x.1)

      -- no byte is kept on a link
      quiet_links_keep_nothing : AreBytes quiet_links.inputs
      quiet_links_keep_nothing k link b here kept =
          let none : None ≡ Some b =
          ap (λ (x : InputLink). x.kept) (one_of_many 4 k empty link here) ∙ kept in
          absurd (cc)
        where
          empty : InputLink
          empty = record { kept = None; waiting = None; enabled = None }

          one_of_many : {A : Type 0} (n k : ℕ) (x y : A) → slice_get (replicate n x) k ≡ Some y → x ≡ y
          one_of_many zero k x y h = absurd (cc)
          one_of_many (suc n) zero x y h = cc
          one_of_many (suc n) (suc k) x y h = one_of_many n k x y h
