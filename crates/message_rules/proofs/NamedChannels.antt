-- A word that names a channel of which the context has the end, with messages of some length.
use Rattle.std.proofs.Common.{◌≡◌, ℕ, ℤ, pos, true, Option, Some, None, ap, arith}
use Rattle.std.proofs.lemmas.Int.{ints}
use Rattle.module_format.specs.Rows.{Fact}
use Rattle.module_format.specs.declared.rows.EndKind.{EndKind}
use Rattle.module_format.specs.declared.rows.Direction.{Direction}
use Rattle.certificate.specs.Rights as rights
use Rattle.machine_state.specs.Site.{Outcome, Local}
use Rattle.states.specs.declared.known.WordFact.TheVariants.{Alone}
use Rattle.states.specs.State.{State}
use Rattle.rulings.specs.Rulings.{Ruling}
use Rattle.rulings.specs.Meaning.{Means}
use Rattle.rulings.specs.Channels.{channel_of, message_length}
use Rattle.rulings.specs.Fitting.{Situation, rule_site}
use Rattle.rulings.proofs.Within.{Within, ArePlain}
use Rattle.rulings.proofs.Words.{same_word_by}
use Rattle.rulings.proofs.Combining.{FitsIf, wants_fits}
use Rattle.rulings.proofs.HeldChannels.{IsHeldChannel, held_channel, names_channel_fits}
use Rattle.message_rules.specs.MessageRules.{holds_end, is_length, has_length, over_channel}

-- A value is the address of a channel: the context has the end in a direction, and messages have n bytes.
pub record IsChannel (x : Situation) (s : State) (direction : Direction) (n : ℕ) (v : ℤ) : Type 0 where
  pub kind : EndKind
  pub end : rights.has_end x.m s.context (record { kind = kind; direction = direction }) ≡ true
  pub known : message_length x.m s.context kind ≡ Some n
  pub at : IsHeldChannel x s direction kind v

length_known : (n : ℕ) (o : Option ℕ) → is_length (pos n) o ≡ true → o ≡ Some n
length_known n None t = absurd (cc)
length_known n (Some len) t = let e = same_word_by (pos n) (pos len) t in ap Some (omega (arith, ints, e))

pub is_channel : (x : Situation) (s : State) (l : Local) → Within ArePlain x.m x.h x.mode x.act s l
    → (direction : Direction) (n : ℕ) (fact : Fact) (v : ℤ) → Means x.m x.act.layout fact (Some v) → (kind : EndKind)
    → channel_of (Alone fact) ≡ Some kind → holds_end (rule_site x) s kind direction ≡ true
    → has_length (rule_site x) s kind (pos n) ≡ true → IsChannel x s direction n v
is_channel x s l a direction n fact v means kind named end long = record {
  kind = kind;
  end = end;
  known = length_known n (message_length x.m s.context kind) long;
  at = held_channel x s l a direction fact v means kind named end;
}

-- what is wanted of a channel
pub over_channel_fits : (x : Situation) (s : State) (fact : Fact) (direction : Direction) (count : ℤ) (next : Ruling)
    (o : Outcome)
    → ((kind : EndKind) → channel_of (Alone fact) ≡ Some kind → holds_end (rule_site x) s kind direction ≡ true
    → has_length (rule_site x) s kind count ≡ true → FitsIf x next o)
    → FitsIf x (over_channel (rule_site x) s fact direction count next) o
unfolding over_channel
over_channel_fits x s fact direction count next o go =
    names_channel_fits x fact _ o (λ kind named.
    wants_fits x _ _ _ _ (λ held. wants_fits x _ _ _ _ (λ long. go kind named held long)))
