-- `records::put` writes six bytes, step apart.
use native.Mathlib.Omega.{arith}
use native.Mathlib.Nat.{div-one}
use lib.ListN.{length-set}
use Rattle.strips.specs.Strips.{byte_of}
use Rattle.strips.specs.Inner.Laying.{strewn}
use Rattle.strips.proofs.records.put.Goals as goal

pub bounds-out-second : goal.bounds-out-second
bounds-out-second c = simp length-set (omega arith)

pub bounds-out-third : goal.bounds-out-third
bounds-out-third c = simp length-set (omega arith)

pub bounds-out-fourth : goal.bounds-out-fourth
bounds-out-fourth c = simp length-set (omega arith)

pub bounds-out-fifth : goal.bounds-out-fifth
bounds-out-fifth c = simp length-set (omega arith)

pub bounds-out-fifth-2 : goal.bounds-out-fifth-2
bounds-out-fifth-2 c = simp length-set (omega arith)

pub returns : goal.returns
unfolding strewn byte_of
returns c = rw div-one
