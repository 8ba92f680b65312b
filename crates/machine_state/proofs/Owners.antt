-- Whose channels lie where, after PARs made some and joins took some away.
use Rattle.std.proofs.Common.{◌≡◌, ◌≢◌, ℕ, zero, suc, ◌<◌, Bool, true, false, ◌⊎◌, inl, inr, List, [], ◌∷◌, length}
use Rattle.std.proofs.Common.{map, Option, Some, None, refl, sym, ap, ◌∙◌, subst, slice_get, arith, eqb-true}
use Rattle.std.proofs.Common.{if◌then◌else◌}
use Rattle.std.proofs.lemmas.Bool.{eqb-false}
use Rattle.std.proofs.lemmas.List.{length-set}
use Rattle.std.specs.Prelude.{◌==◌, slice_set}
use Rattle.module_format.specs.declared.rows.ChannelRow.{ChannelRow}
use Rattle.machine_state.specs.declared.process.Channel.{Channel}
use Rattle.machine_state.specs.Moves.{cell_of}
use Rattle.machine_state.specs.Joins.{with_channels, without_channels}
use Rattle.machine_state.specs.BranchShares.{frame_address}
use Rattle.machine_state.specs.Ownership.{IsAmong, owner_of, owner_in}

-- one cell was set
pub owner_set : (cells : List (Option Channel)) (i : ℕ) (channel : Channel) (k : ℕ)
    → (owner_in (slice_set cells i (Some channel)) k ≡ owner_in cells k)
    ⊎ ((i ≡ k) × (owner_in (slice_set cells i (Some channel)) k ≡ Some channel.opener))
owner_set [] i channel k = inl refl
owner_set (cell ∷ cells) zero channel zero = inr (refl, refl)
owner_set (cell ∷ cells) zero channel (suc k) = inl refl
owner_set (cell ∷ cells) (suc i) channel zero = inl refl
owner_set (cell ∷ cells) (suc i) channel (suc k) = elim (owner_set cells i channel k) [
  | inl same ↦ inl same
  | inr here ↦ inr (ap suc here.0, here.1)
]

owner_there : (cells : List (Option Channel)) (i : ℕ) (channel : Channel) → i < length cells
    → owner_in (slice_set cells i (Some channel)) i ≡ Some channel.opener
owner_there [] i channel low = absurd (omega (arith, low))
owner_there (cell ∷ cells) zero channel low = refl
owner_there (cell ∷ cells) (suc i) channel low = owner_there cells i channel (omega (arith, low))

-- a cell was set whose channel has the same opener as before
pub owner_same : (cells : List (Option Channel)) (i : ℕ) (old new : Channel) → slice_get cells i ≡ Some (Some old)
    → new.opener ≡ old.opener → (k : ℕ) → owner_in (slice_set cells i (Some new)) k ≡ owner_in cells k
owner_same cells i old new here same k = elim (owner_set cells i new k) [
  | inl e ↦ e
  | inr e ↦ e.1 ∙ (ap (λ (n : ℕ). Some n) same
      ∙ sym (ap owner_of (subst (λ n. slice_get cells n ≡ Some (Some old)) e.0 here)))
]

-- ---- the channels of a row

abbrev pub row_addresses : ℕ → List ChannelRow → List ℕ
row_addresses base rows = map (λ (c : ChannelRow). frame_address base c.word) rows

-- the word of one of them
pub record Made (p base : ℕ) (rows : List ChannelRow) (k q : ℕ) : Type 0 where
  pub owner : p ≡ q
  pub address : ℕ
  pub among : IsAmong address (row_addresses base rows)
  pub cell : cell_of address ≡ k

abbrev made_channel : ℕ → ChannelRow → Channel
made_channel p c = record { opener = p; length = c.length; waiting = None; enabled = None }

pub made_owner : (p base : ℕ) (rows : List ChannelRow) (cells : List (Option Channel)) (k q : ℕ)
    → owner_in (with_channels p base rows cells) k ≡ Some q → (owner_in cells k ≡ Some q) ⊎ Made p base rows k q
made_owner p base [] cells k q is = inl is
made_owner p base (c ∷ rows) cells k q is =
    elim (made_owner p base rows
    (slice_set cells (cell_of (frame_address base c.word)) (Some (made_channel p c))) k q is) [
      | inl before ↦ elim (owner_set cells (cell_of (frame_address base c.word)) (made_channel p c) k) [
        | inl same ↦ inl (sym same ∙ before)
        | inr here ↦ inr (record {
          owner = (let e : Some p ≡ Some q = sym here.1 ∙ before in cc);
          address = frame_address base c.word;
          among = inl refl;
          cell = here.0;
        })
      ]
      | inr later ↦ inr (record {
        owner = later.owner;
        address = later.address;
        among = inr later.among;
        cell = later.cell;
      })
    ]

-- what was there stays where the row has no channel
pub kept_owner : (p base : ℕ) (rows : List ChannelRow) (cells : List (Option Channel)) (k q : ℕ)
    → owner_in cells k ≡ Some q
    → ((a : ℕ) → IsAmong a (row_addresses base rows) → cell_of a ≡ k → ⊥)
    → owner_in (with_channels p base rows cells) k ≡ Some q
kept_owner p base [] cells k q is none = is
kept_owner p base (c ∷ rows) cells k q is none =
    kept_owner p base rows (slice_set cells (cell_of (frame_address base c.word)) (Some (made_channel p c))) k q
    (elim (owner_set cells (cell_of (frame_address base c.word)) (made_channel p c) k) [
      | inl same ↦ same ∙ is
      | inr here ↦ absurd (none (frame_address base c.word) (inl refl) here.0)
    ]) (λ a among cell. none a (inr among) cell)

stays_made : (p base : ℕ) (rows : List ChannelRow) (cells : List (Option Channel)) (k : ℕ)
    → owner_in cells k ≡ Some p → owner_in (with_channels p base rows cells) k ≡ Some p
stays_made p base [] cells k is = is
stays_made p base (c ∷ rows) cells k is =
    stays_made p base rows (slice_set cells (cell_of (frame_address base c.word)) (Some (made_channel p c))) k
    (elim (owner_set cells (cell_of (frame_address base c.word)) (made_channel p c) k) [
      | inl same ↦ same ∙ is
      | inr here ↦ here.1
    ])

pub new_owner : (p base : ℕ) (rows : List ChannelRow) (cells : List (Option Channel)) (a : ℕ)
    → IsAmong a (row_addresses base rows) → cell_of a < length cells
    → owner_in (with_channels p base rows cells) (cell_of a) ≡ Some p
new_owner p base [] cells a among low = absurd among
new_owner p base (c ∷ rows) cells a (inl here) low =
    stays_made p base rows (slice_set cells (cell_of (frame_address base c.word)) (Some (made_channel p c))) (cell_of a)
    (subst (λ n. owner_in (slice_set cells (cell_of n) (Some (made_channel p c))) (cell_of a) ≡ Some p) (sym here)
    (owner_there cells (cell_of a) (made_channel p c) low))
new_owner p base (c ∷ rows) cells a (inr there) low =
    let set = slice_set cells (cell_of (frame_address base c.word)) (Some (made_channel p c)) in
    let same = length-set cells (cell_of (frame_address base c.word)) (Some (made_channel p c)) in
    new_owner p base rows set a there (omega (arith, low, same))

pub with_channels_size : (p base : ℕ) (rows : List ChannelRow) (cells : List (Option Channel))
    → length (with_channels p base rows cells) ≡ length cells
with_channels_size p base [] cells = refl
with_channels_size p base (c ∷ rows) cells =
    with_channels_size p base rows (slice_set cells (cell_of (frame_address base c.word)) (Some (made_channel p c)))
    ∙ length-set cells (cell_of (frame_address base c.word)) (Some (made_channel p c))

-- ---- a join is over

pub taken_owner : (o : ℕ) (cells : List (Option Channel)) (k q : ℕ)
    → owner_in (without_channels o cells) k ≡ Some q → (owner_in cells k ≡ Some q) × (o ≢ q)
taken_owner o [] k q is = absurd (cc)
taken_owner o (cell ∷ cells) (suc k) q is = taken_owner o cells k q is
taken_owner o (None ∷ cells) zero q is = absurd (cc)
taken_owner o (Some channel ∷ cells) zero q is = on (channel.opener == o) refl is
  where
    on : (b : Bool) → (channel.opener == o) ≡ b → owner_of (Some (if b then None else Some channel)) ≡ Some q
        → (Some channel.opener ≡ Some q) × (o ≢ q)
    on true same is = absurd (cc)
    on false other is = (
      is,
      λ e.
          let mine : channel.opener ≡ q = cc in eqb-false channel.opener o other (mine ∙ sym e),
    )

pub left_owner : (o : ℕ) (cells : List (Option Channel)) (k q : ℕ) → o ≢ q → owner_in cells k ≡ Some q
    → owner_in (without_channels o cells) k ≡ Some q
left_owner o [] k q differ is = absurd (cc)
left_owner o (cell ∷ cells) (suc k) q differ is = left_owner o cells k q differ is
left_owner o (None ∷ cells) zero q differ is = absurd (cc)
left_owner o (Some channel ∷ cells) zero q differ is = on (channel.opener == o) refl
  where
    on : (b : Bool) → (channel.opener == o) ≡ b → owner_of (Some (if b then None else Some channel)) ≡ Some q
    on true same =
        let mine : channel.opener ≡ q = cc in
        absurd (differ (sym (eqb-true channel.opener o same) ∙ mine))
    on false other = is

pub without_channels_size : (o : ℕ) (cells : List (Option Channel))
    → length (without_channels o cells) ≡ length cells
without_channels_size o [] = refl
without_channels_size o (cell ∷ cells) = ap suc (without_channels_size o cells)
