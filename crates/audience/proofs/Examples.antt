-- The worked examples, by computation.
use Rattle.std.proofs.Common.{refl}
use Rattle.address.proofs.WorkedBares.{worked_bares}
use Rattle.keep_first.specs.Keep.{some, first_or, firsts, stand_in}
use Rattle.audience.specs.Table.{WorkedExamples}

pub worked_examples : WorkedExamples
unfolding some first_or firsts stand_in
worked_examples = record {
  addresses = worked_bares;
  cc_text_is_added = refl;
  cc_text_already_in_to = refl;
  display_name_replaces_the_bare_in_its_place = refl;
  empty_ignored_text_shuts_out = refl;
  nobody_is_addressed = refl;
  text_that_holds_the_bot_is_dropped = refl;
  first_below_the_limit = refl;
  positive_below_the_limit = refl;
  first_at_the_limit = refl;
  positive_at_the_limit = refl;
  first_past_the_limit = refl;
}
