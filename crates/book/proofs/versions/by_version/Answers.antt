-- `versions::by_version` is `by_version`, one test a return.
use Prim.Native.Nat.{◌<◌, ◌≤◌}
use native.Mathlib.Omega.{arith}
use borrow.Author.Tests.{lt-ltb, le-ltb}
use Rattle.book.specs.Answers.{by_version}
use Rattle.book.proofs.versions.by_version.Goals as goal

pub returns-then-before-version : goal.returns-then-before-version
unfolding by_version
returns-then-before-version c =
    let a = c.args in
    let higher : a.before < a.version = omega (arith, c.if-before-version.true) in
    rw (lt-ltb _ _ higher)

pub returns-then-version-before : goal.returns-then-version-before
unfolding by_version
returns-then-version-before c =
    let a = c.args in
    let none-higher : a.version ≤ a.before = omega (arith, c.if-before-version.false) in
    let lower : a.version < a.before = omega (arith, c.if-version-before.true) in
    rw (le-ltb _ _ none-higher, lt-ltb _ _ lower)

pub returns-then-same : goal.returns-then-same
unfolding by_version
returns-then-same c = simp (le-ltb _ _ c.if-before-version.false, le-ltb _ _ c.if-version-before.false, c.if-same.true)

pub returns : goal.returns
unfolding by_version
returns c = simp (le-ltb _ _ c.if-before-version.false, le-ltb _ _ c.if-version-before.false, c.if-same.false)
