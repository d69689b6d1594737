-- The generator (02, W12).
use Rattle.std.specs.Prelude.{ℕ, ◌*◌, ◌/◌, ◌%◌, ◌^◌}
use Rattle.std.specs.Int.Bits.{bit_xor}

-- "x is xored with x shifted left 13, then with the result shifted right 17, then left 5, each kept to 32 bits"
unfoldable pub draw : ℕ → ℕ
draw x =
    let y = bit_xor x (x * 2 ^ 13 % 2 ^ 32) in
    let z = bit_xor y (y / 2 ^ 17) in
    bit_xor z (z * 2 ^ 5 % 2 ^ 32)
