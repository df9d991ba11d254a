use Rattle.std.proofs.Common.{◌≡◌, get_or, arith, rules}
use Rattle.packed_book.proofs.Views.{found, found-past}
use Rattle.packed_book.proofs.book.PackedBook.entry.Goals as goal

pub returns-in_err-at-clause-list : goal.returns-in_err-at-clause-list
returns-in_err-at-clause-list c =
    let b = c.args.self.now in
    rw c.from_residual.ensures (found-past b.bytes.now b.starts.items b.counted b.indexed c.args.n (search (rules, arith)))

pub returns-clause-list : goal.returns-clause-list
returns-clause-list c =
    let b = c.args.self.now in
    let here : c.from.result ≡ get_or b.starts.items c.args.n 0 = search (rules, arith) in
    rw here (found b.bytes.now b.starts.items b.counted b.indexed c.args.n (search (rules, arith)))
