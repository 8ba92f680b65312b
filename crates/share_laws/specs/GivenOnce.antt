-- A branch's share, by what its row says of itself: what it takes is its context's, and no branch before it has it.
use Rattle.std.specs.Prelude.{◌≡◌, ℕ, ◌<◌, ℤ, negsuc, ◌+ℤ◌, ◌||◌, true, false, Some, slice_get}
use Rattle.std.specs.List.{list_any}
use Rattle.module_format.specs.declared.rows.EndRow.{EndRow}
use Rattle.module_format.specs.declared.rows.Parameter.{Parameter}
use Rattle.module_format.specs.declared.rows.ParameterKind.TheVariants.{WrittenRegion}
use Rattle.module_format.specs.Contents.{Contents, Branch}
use Rattle.module_format.specs.Contexts.{parameters_at}
use Rattle.module_format.specs.Pars.{key_of}
use Rattle.certificate.specs.Rights.{may_write_word, may_read_word, is_among, is_same_end, has_end}
use Rattle.machine_state.specs.JoinLookups.{Found}
use Rattle.machine_state.specs.Ownership.{IsAmong}
use Rattle.rulings.specs.Reach.{is_listed, may_write_parameter, may_read_parameter}
use Rattle.rulings.specs.Remaining.{is_hidden, is_own_end}
use Rattle.share_laws.specs.Starts.{IsLeft}

-- neither of two branches writes what the other one has, and they have no end in common
pub record IsBeside (b other : Branch) : Type 0 where
  pub writes : (k : ℤ) → is_among b.writes k ≡ true
      → (is_among other.writes k ≡ false) × (is_among other.reads k ≡ false)
  pub reads : (k : ℤ) → is_among b.reads k ≡ true → is_among other.writes k ≡ false
  pub written : (j : ℕ) → is_listed b.written_parameters j ≡ true
      → (is_listed other.written_parameters j ≡ false) × (is_listed other.read_parameters j ≡ false)
  pub read : (j : ℕ) → is_listed b.read_parameters j ≡ true → is_listed other.written_parameters j ≡ false
  pub ends : (e : EndRow) → IsAmong e b.ends
      → list_any (λ x. is_same_end (key_of x) (key_of e)) other.ends ≡ false

-- parameter j is a region that the PAR's context may write
pub record IsWritable (m : Contents) (context j : ℕ) : Type 0 where
  pub parameter : Parameter
  pub size : ℕ
  pub lo : ℤ
  pub hi : ℤ
  pub found : slice_get (parameters_at m context) j ≡ Some parameter
  pub kind : parameter.kind ≡ WrittenRegion size lo hi
  pub may : may_write_parameter m context j ≡ true

-- What the branch is given the context of its PAR has, none of it is of the block or a channel, and the branches before
-- it have nothing of it.
pub record IsGivenOnce (m : Contents) (found : Found) : Type 0 where
  pub writes : (k : ℤ) → is_among found.branch.writes k ≡ true → may_write_word m found.par.context k ≡ true
  pub reads : (k : ℤ) → is_among found.branch.reads k ≡ true → may_read_word m found.par.context k ≡ true
  pub hidden : (k : ℤ) → is_hidden found.par k ≡ true
      → (is_among found.branch.writes k ≡ false) × (is_among found.branch.reads k ≡ false)
  pub written : (j : ℕ) → is_listed found.branch.written_parameters j ≡ true → IsWritable m found.par.context j
  pub read : (j : ℕ) → is_listed found.branch.read_parameters j ≡ true
      → may_read_parameter m found.par.context j ≡ true
  pub ends : (e : EndRow) → IsAmong e found.branch.ends
      → (has_end m found.par.context e || is_own_end found.par e.kind) ≡ true
  pub scheduling : (n : ℕ) → n < 3 → is_among found.branch.writes (found.branch.workspace +ℤ negsuc n) ≡ true
  pub beside : (n : ℕ) (other : Branch) → n < found.number → slice_get found.par.branches n ≡ Some other
      → IsBeside found.branch other

-- so its share is left once those are started
abbrev pub SharesAreLeft : Type 0
SharesAreLeft = (m : Contents) (found : Found) → IsGivenOnce m found → IsLeft m found
