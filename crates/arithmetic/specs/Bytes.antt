-- Numbers from the bytes of a list, the low one first ("little-endian"). A byte past the list's end reads as 0.
use Rattle.std.specs.Prelude.{List, ℕ, ◌+◌, ◌*◌, get_or}

-- the byte at a place
abbrev pub byte : List ℕ → ℕ → ℕ
byte b i = get_or b i 0

-- two bytes from a place on
abbrev pub two_bytes : List ℕ → ℕ → ℕ
two_bytes b i = byte b i + 256 * byte b (i + 1)

-- four
abbrev pub four_bytes : List ℕ → ℕ → ℕ
four_bytes b i = byte b i + 256 * byte b (i + 1) + 65_536 * byte b (i + 2) + 16_777_216 * byte b (i + 3)

-- eight: the low four, and the high four
abbrev pub eight_bytes : List ℕ → ℕ → ℕ
eight_bytes b i = four_bytes b i + 4_294_967_296 * four_bytes b (i + 4)
