use Rattle.std.proofs.Common.{◌≡◌, ◌-◌, true, ltb, length, take, drop, rules, ap, arith}
use Rattle.std.proofs.lemmas.Bool.{lt-ltb}
use Rattle.email_policy.proofs.KeyBytes.{take-take-min}
use Rattle.email_policy.proofs.keys.check_text.Goals as goal

pub returns-in_err-check_text_within : goal.returns-in_err-check_text_within
returns-in_err-check_text_within c =
    let t = take-take-min (c.args.to - c.args.from) 254 (c.min-front.result - c.args.from) (drop c.args.from c.args.bytes.now) (omega arith) in
    search (rules, t)

pub returns-then-between-gt-LONGEST_KEY : goal.returns-then-between-gt-LONGEST_KEY
returns-then-between-gt-LONGEST_KEY c =
    let t = take-take-min (c.args.to - c.args.from) 254 (c.min-front.result - c.args.from) (drop c.args.from c.args.bytes.now) (omega arith) in
    let l : ltb 254 (length (take (c.args.to - c.args.from) (drop c.args.from c.args.bytes.now))) ≡ true = lt-ltb _ _ (omega (arith, ap length c.between.ensures)) in
    search (rules, t, l)

pub returns : goal.returns
returns c =
    let t = take-take-min (c.args.to - c.args.from) 254 (c.min-front.result - c.args.from) (drop c.args.from c.args.bytes.now) (omega arith) in
    grind (arith, t)
