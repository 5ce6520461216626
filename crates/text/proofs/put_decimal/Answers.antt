-- The digits that the library spells are those of the text.
use Rattle.text.proofs.Decimal.{decimal_spelled}
use Rattle.text.proofs.put_decimal.Goals as goal

pub put_bytes-requires : goal.put_bytes-requires
put_bytes-requires c =
    let made = c in
    let start = made in
    rw (decimal_spelled start.ranges.n made.decimal-k.ensures.len made.decimal-k.ensures.digits) start.requires

pub returns : goal.returns
returns c =
    let put = c in
    let made = put in
    let start = made in
    rw (decimal_spelled start.ranges.n made.decimal-k.ensures.len made.decimal-k.ensures.digits) at
    put.put_bytes.ensures
