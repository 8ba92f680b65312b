-- What no branch before has is left.
use Rattle.std.proofs.Common.{◌≡◌, ℕ, zero, suc, ◌<◌, ◌||◌, not, ℤ, Bool, true, false, List, [], ◌∷◌, take, Some}
use Rattle.std.proofs.Common.{refl, sym, ap, ◌∙◌, arith}
use Rattle.std.specs.Prelude.{slice_get}
use Rattle.std.specs.List.{list_any}
use Rattle.std.proofs.lemmas.Bool.{and_from, false_from_ne_true, not_from_false}
use Rattle.module_format.specs.Pars.{key_of}
use Rattle.module_format.specs.Contents.{Contents, Branch}
use Rattle.certificate.specs.Rights.{is_among, is_same_end}
use Rattle.machine_state.specs.JoinLookups.{Found}
use Rattle.rulings.specs.Reach.{is_listed}
use Rattle.rulings.specs.Remaining.{some_started, is_hidden}
use Rattle.rulings.specs.Remaining.{word_given_to_write, word_given_to_read}
use Rattle.share_laws.specs.GivenOnce.{IsGivenOnce, SharesAreLeft}
use Rattle.share_laws.specs.Starts.{IsLeft}
use Rattle.share_laws.proofs.LeftBytes.{none_of}

-- where none of the first items passes a test, none of those does
none_before : (branches : List Branch) (n : ℕ) (test : Branch → Bool)
    → ((i : ℕ) (b : Branch) → i < n → slice_get branches i ≡ Some b → test b ≡ false)
    → list_any test (take n branches) ≡ false
none_before [] zero test none = refl
none_before [] (suc n) test none = refl
none_before (b ∷ bs) zero test none = refl
none_before (b ∷ bs) (suc n) test none =
    ap (λ x. x || list_any test (take n bs)) (none 0 b (omega arith) refl)
    ∙ none_before bs n test (λ i x low there. none (suc i) x (omega (arith, low)) there)

module _ (m : Contents) (found : Found) (g : IsGivenOnce m found) where
  -- no branch that is started passes a test that none before this one passes
  unstarted : (test : Branch → Bool)
      → ((i : ℕ) (b : Branch) → i < found.number → slice_get found.par.branches i ≡ Some b → test b ≡ false)
      → some_started found.par found.number test ≡ false
  unstarted test none = none_before found.par.branches found.number test none

  -- a word that the branch writes is not hidden
  written_shown : (k : ℤ) → is_among found.branch.writes k ≡ true → not (is_hidden found.par k) ≡ true
  written_shown k among = not_from_false _ (false_from_ne_true _ (λ hides.
      let free = (g.hidden k hides).0 in let no' : false ≡ true = sym free ∙ among in cc))

  -- nor is one that it reads
  read_shown : (k : ℤ) → is_among found.branch.reads k ≡ true → not (is_hidden found.par k) ≡ true
  read_shown k among = not_from_false _ (false_from_ne_true _ (λ hides.
      let free = (g.hidden k hides).1 in let no' : false ≡ true = sym free ∙ among in cc))

  -- what is given once is left
  is_left : IsLeft m found
  is_left = record {
    writes = λ k among. and_from _ _ (and_from _ _ (g.writes k among) (written_shown k among))
        (none_of (word_given_to_write found.par found.number k) (word_given_to_read found.par found.number k)
        (unstarted (λ b. is_among b.writes k) (λ i b low there. ((g.beside i b low there).writes k among).0))
        (unstarted (λ b. is_among b.reads k) (λ i b low there. ((g.beside i b low there).writes k among).1)));
    reads = λ k among. and_from _ _ (and_from _ _ (g.reads k among) (read_shown k among))
        (not_from_false _ (unstarted (λ b. is_among b.writes k)
        (λ i b low there. (g.beside i b low there).reads k among)));
    written = λ j listed.
        let w = g.written j listed in
        record {
          parameter = w.parameter;
          size = w.size;
          lo = w.lo;
          hi = w.hi;
          found = w.found;
          kind = w.kind;
          may = w.may;
          written = unstarted (λ b. is_listed b.written_parameters j)
              (λ i b low there. ((g.beside i b low there).written j listed).0);
          read = unstarted (λ b. is_listed b.read_parameters j)
              (λ i b low there. ((g.beside i b low there).written j listed).1);
        };
    read = λ j listed. record {
      may = g.read j listed;
      written = unstarted (λ b. is_listed b.written_parameters j)
          (λ i b low there. (g.beside i b low there).read j listed);
    };
    ends = λ e among. and_from _ _ (g.ends e among) (not_from_false _ (unstarted
        (λ b. list_any (λ other. is_same_end (key_of other) (key_of e)) b.ends)
        (λ i b low there. (g.beside i b low there).ends e among)));
    scheduling = g.scheduling;
  }

pub shares_are_left : SharesAreLeft
shares_are_left m found g = is_left m found g
