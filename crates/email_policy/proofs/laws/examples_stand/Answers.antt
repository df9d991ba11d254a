use Rattle.std.proofs.Common.{refl}
use Rattle.roll.specs.Packing.{pack_texts}
use Rattle.roll.specs.Ends.{texts_end}
use Rattle.roll.specs.Reading.{texts_from, texts_fault}
use Rattle.email_policy.specs.Packing.{pack_policy}
use Rattle.email_policy.specs.Questions.{own_place}
use Rattle.email_policy.specs.Keys.{key_fault, before, rises}
use Rattle.email_policy.proofs.laws.examples_stand.Goals as goal

pub returns : goal.returns
unfolding pack_texts texts_end texts_from texts_fault pack_policy own_place key_fault before rises
returns c =
    record {
      records = record {
        defaults_of_zeros = refl;
        all_left_out = refl;
        no_bytes = refl;
        unknown_bit = refl;
        defaults_without_mute = refl;
        reply_byte_too_large = refl;
        field_byte_missing = refl;
        roll_of_no_text = refl;
        most_texts = refl;
        one_text_more = refl;
        text_past_the_end = refl;
        bytes_left_over = refl;
        longest = refl;
        one_byte_longer = refl;
        fault_before_the_limit = refl;
        longest_before_others = refl;
        cut_at_the_limit = refl;
        byte_at_the_limit = refl;
        past_the_end = refl;
        read_back = refl;
        bad_byte = refl;
        own_address = refl;
      };
      keys = record {
        fine = refl;
        fine_with_a_name = refl;
        no_at = refl;
        no_dot = refl;
        blank_inside = refl;
        no_bare = refl;
        bad_byte = refl;
        longest = refl;
        one_byte_longer = refl;
        length_before_a_bad_byte = refl;
        by_bare = refl;
        by_bytes = refl;
        not_after_itself = refl;
      };
    }
