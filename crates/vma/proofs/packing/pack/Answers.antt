use Rattle.std.proofs.Common.{◌^◌, ◌<◌, arith}
use Rattle.vma.proofs.Shifts.{four_fields}
use Rattle.vma.proofs.packing.pack.Goals as goal

pub returns : goal.returns
returns c =
    let a = c.args in
    let address : a.address < 2 ^ 32 = omega (arith, c.ranges.address.fits) in
    rw (c.from.ensures, c.from-2.ensures, c.from-3.ensures, c.from-4.ensures)
    (four_fields a.number a.code a.count a.address address)
