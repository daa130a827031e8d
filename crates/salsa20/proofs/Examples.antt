-- The Salsa20 specification's examples, computed from its definitions.
--
-- In order: 3 (quarterround), 4 (rowround), 5 (columnround), 6 (doubleround), 7 (littleendian), 9 (the expansion of a
-- key of 32 bytes).
-- Not here: the code on vectors.
-- Assumes nothing.
use mathlib.Core.Path.{◌≡◌, refl}
use mathlib.Core.List.{List, [], ◌∷◌}
use Prim.Native.Nat.{ℕ}
use Rattle.words.specs.Endian.{le, le_bytes}
use Rattle.stream.specs.Words.{sum, serialize}
use Rattle.salsa20.specs.Salsa20.{quarterround, rowround, columnround, doubleround, doublerounds}
use Rattle.salsa20.specs.Salsa20.{hash, expanded, expand}

-- 3
pub quarterround_3_2 : quarterround (record { y0 = 0x00000001; y1 = 0; y2 = 0; y3 = 0 })
    ≡ record { y0 = 0x08008145; y1 = 0x00000080; y2 = 0x00010200; y3 = 0x20500000 }
unfolding quarterround
quarterround_3_2 = refl

pub quarterround_3_7 : quarterround
    (record { y0 = 0xd3917c5b; y1 = 0x55f1c407; y2 = 0x52a58a7a; y3 = 0x8f887a3b })
    ≡ record { y0 = 0x3e2f308c; y1 = 0xd90a8f36; y2 = 0x6ab2a923; y3 = 0x2883524c }
unfolding quarterround
quarterround_3_7 = refl

-- 4 and 5, of one state
abbrev ones : List ℕ
ones = 1 ∷ 0 ∷ 0 ∷ 0 ∷ 1 ∷ 0 ∷ 0 ∷ 0 ∷ 1 ∷ 0 ∷ 0 ∷ 0 ∷ 1 ∷ 0 ∷ 0 ∷ 0 ∷ []

pub rowround_4 : rowround ones
    ≡ 0x08008145 ∷ 0x00000080 ∷ 0x00010200 ∷ 0x20500000
    ∷ 0x20100001 ∷ 0x00048044 ∷ 0x00000080 ∷ 0x00010000
    ∷ 0x00000001 ∷ 0x00002000 ∷ 0x80040000 ∷ 0x00000000
    ∷ 0x00000001 ∷ 0x00000200 ∷ 0x00402000 ∷ 0x88000100 ∷ []
unfolding rowround quarterround
rowround_4 = refl

pub columnround_5 : columnround ones
    ≡ 0x10090288 ∷ 0x00000000 ∷ 0x00000000 ∷ 0x00000000
    ∷ 0x00000101 ∷ 0x00000000 ∷ 0x00000000 ∷ 0x00000000
    ∷ 0x00020401 ∷ 0x00000000 ∷ 0x00000000 ∷ 0x00000000
    ∷ 0x40a04001 ∷ 0x00000000 ∷ 0x00000000 ∷ 0x00000000 ∷ []
unfolding columnround quarterround
columnround_5 = refl

-- 6
pub doubleround_6 : doubleround (1 ∷ 0 ∷ 0 ∷ 0 ∷ 0 ∷ 0 ∷ 0 ∷ 0 ∷ 0 ∷ 0 ∷ 0 ∷ 0 ∷ 0 ∷ 0 ∷ 0 ∷ 0 ∷ [])
    ≡ 0x8186a22d ∷ 0x0040a284 ∷ 0x82479210 ∷ 0x06929051
    ∷ 0x08000090 ∷ 0x02402200 ∷ 0x00004000 ∷ 0x00800000
    ∷ 0x00010200 ∷ 0x20400000 ∷ 0x08008104 ∷ 0x00000000
    ∷ 0x20500000 ∷ 0xa0000040 ∷ 0x0008180a ∷ 0x612a8020 ∷ []
unfolding doubleround rowround columnround quarterround
doubleround_6 = refl

-- 7
pub littleendian_7 : le 4 (86 ∷ 75 ∷ 30 ∷ 9 ∷ []) 0 ≡ 0x091e4b56
unfolding le
littleendian_7 = refl

-- 9: k0 = (1, 2, .., 16), k1 = (201, 202, .., 216), n = (101, 102, .., 116)
abbrev key : List ℕ
key =
    1 ∷ 2 ∷ 3 ∷ 4 ∷ 5 ∷ 6 ∷ 7 ∷ 8 ∷ 9 ∷ 10 ∷ 11 ∷ 12 ∷ 13 ∷ 14 ∷ 15 ∷ 16
    ∷ 201 ∷ 202 ∷ 203 ∷ 204 ∷ 205 ∷ 206 ∷ 207 ∷ 208 ∷ 209 ∷ 210 ∷ 211 ∷ 212 ∷ 213 ∷ 214 ∷ 215 ∷ 216 ∷ []

abbrev n : List ℕ
n = 101 ∷ 102 ∷ 103 ∷ 104 ∷ 105 ∷ 106 ∷ 107 ∷ 108 ∷ 109 ∷ 110 ∷ 111 ∷ 112 ∷ 113 ∷ 114 ∷ 115 ∷ 116 ∷ []

pub expand_9 : expand key n
    ≡ 69 ∷ 37 ∷ 68 ∷ 39 ∷ 41 ∷ 15 ∷ 107 ∷ 193 ∷ 255 ∷ 139 ∷ 122 ∷ 6 ∷ 170 ∷ 233 ∷ 217 ∷ 98
    ∷ 89 ∷ 144 ∷ 182 ∷ 106 ∷ 21 ∷ 51 ∷ 200 ∷ 65 ∷ 239 ∷ 49 ∷ 222 ∷ 34 ∷ 215 ∷ 114 ∷ 40 ∷ 126
    ∷ 104 ∷ 197 ∷ 7 ∷ 225 ∷ 197 ∷ 153 ∷ 31 ∷ 2 ∷ 102 ∷ 78 ∷ 76 ∷ 176 ∷ 84 ∷ 245 ∷ 246 ∷ 184
    ∷ 177 ∷ 160 ∷ 133 ∷ 130 ∷ 6 ∷ 72 ∷ 149 ∷ 119 ∷ 192 ∷ 195 ∷ 132 ∷ 236 ∷ 234 ∷ 103 ∷ 246 ∷ 74 ∷ []
unfolding expand hash expanded serialize sum doublerounds doubleround rowround columnround quarterround le le_bytes
expand_9 = refl
