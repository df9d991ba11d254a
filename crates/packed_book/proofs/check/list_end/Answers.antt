use Rattle.std.proofs.Common.{rules, ◌≡◌, arith}
use Rattle.packed_book.specs.Ends.{list_end}
use Rattle.packed_book.proofs.check.list_end.Goals as goal

pub returns-in_err-place : goal.returns-in_err-place
unfolding list_end
returns-in_err-place c = search rules

pub returns-in_err-check_key : goal.returns-in_err-check_key
unfolding list_end
returns-in_err-check_key c = search rules

pub returns-in_err-end : goal.returns-in_err-end
unfolding list_end
returns-in_err-end c = search rules

pub returns-in_err-check_cc : goal.returns-in_err-check_cc
unfolding list_end
returns-in_err-check_cc c = let b = c.in_ok-place.ensures.bound in let e : c.new.result.at ≡ c.in_ok-place.place = omega arith in search rules

pub returns-then-not-rises : goal.returns-then-not-rises
unfolding list_end
returns-then-not-rises c = let b = c.in_ok-place.ensures.bound in let e : c.new.result.at ≡ c.in_ok-place.place = omega arith in search rules

pub returns : goal.returns
unfolding list_end
returns c = let b = c.in_ok-place.ensures.bound in let e : c.new.result.at ≡ c.in_ok-place.place = omega arith in search rules
