-- The bucket of a contradiction is one of those that are laid out.
use Rattle.std.proofs.Common.{◌≡◌, ◌<◌, ◌+◌, ◌*◌, ℕ, List, arith, length, true}
use Rattle.ot_theory.specs.Languages.{Term}
use Rattle.ot_theory.specs.Problems.{Problem}
use Rattle.ot_theory.specs.Refutations.{is_contradiction}
use Rattle.refutation.specs.Terms.{terms_in}
use Rattle.search_deeds.specs.Indexed.{are_given, is_last, IsLaidOut}
use Rattle.search_deeds.proofs.Choices.{last-within, place-within, IsBucket-alone, IsBucket-choice}
use Rattle.search_deeds.proofs.index.Index.bucket_of.Goals as goal

bucket-within : (problem : Problem) (widest : ℕ) (places : List (List ℕ)) (terms : List Term) (i a : ℕ) → is_contradiction problem terms ≡ true → is_last terms i a ≡ true → IsLaidOut problem widest places → i * widest + a < length places
bucket-within problem widest places terms i a genuine last laid =
    let w = last-within problem terms i a genuine last in
    omega (arith, place-within (length problem.inputs) widest i a w.0 (omega (arith, w.1, laid.wide i w.0)), laid.long)

pub overflow_mul-result : goal.overflow_mul-result
overflow_mul-result c = record { fits = omega (arith, bucket-within c.args.p.now c.args.self.now.widest c.args.self.now.places.items _ _ _ c.requires.genuine c.in-Some.ensures c.requires.laid_out, c.args.self.now.places.ok.0, c.args.self.now.places.small) }

pub overflow_add-result : goal.overflow_add-result
overflow_add-result c = record { fits = omega (arith, bucket-within c.args.p.now c.args.self.now.widest c.args.self.now.places.items _ _ _ c.requires.genuine c.in-Some.ensures c.requires.laid_out, c.args.self.now.places.ok.0, c.args.self.now.places.small) }

pub returns-in-Some-clause-within : goal.returns-in-Some-clause-within
returns-in-Some-clause-within c = bucket-within c.args.p.now c.args.self.now.widest c.args.self.now.places.items _ _ _ c.requires.genuine c.in-Some.ensures c.requires.laid_out

pub returns-in-Some-clause-bucket : goal.returns-in-Some-clause-bucket
returns-in-Some-clause-bucket c = IsBucket-choice c.args.p.now c.args.self.now.widest (terms_in c.args.terms.now) c.in-Some.input c.in-Some.winner c.requires.genuine c.in-Some.ensures

pub returns-in-None-clause-bucket : goal.returns-in-None-clause-bucket
returns-in-None-clause-bucket c =
    let alone : are_given (terms_in c.args.terms.now) ≡ true = rw c.in-None.is at c.last_choice.ensures in
    rw c.inputs-in-None.ensures.value (IsBucket-alone c.args.p.now c.args.self.now.widest (terms_in c.args.terms.now) alone)
