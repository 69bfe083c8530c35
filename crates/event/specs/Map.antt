-- The register map (01, 'Registers': 'Numbers are the select bits as a number'; 001, register map) and the pins (01, 'The event list'),
-- each number under the name that it has in document 000.
use Rattle.std.specs.Prelude.{ℕ}

-- '0 PGCR, 1 PSRR, 2-4 directions A, B, C, 5 PIVR, 6 PACR, 7 PBCR'
abbrev pub PGCR : ℕ
PGCR = 0

abbrev pub PSRR : ℕ
PSRR = 1

abbrev pub PADDR : ℕ
PADDR = 2

abbrev pub PBDDR : ℕ
PBDDR = 3

abbrev pub PCDDR : ℕ
PCDDR = 4

abbrev pub PIVR : ℕ
PIVR = 5

abbrev pub PACR : ℕ
PACR = 6

abbrev pub PBCR : ℕ
PBCR = 7

-- '8 and 9 data A, B, 10 and 11 alternate A, B, 12 data C, 13 PSR'
abbrev pub PADR : ℕ
PADR = 8

abbrev pub PBDR : ℕ
PBDR = 9

abbrev pub PAAR : ℕ
PAAR = 10

abbrev pub PBAR : ℕ
PBAR = 11

abbrev pub PCDR : ℕ
PCDR = 12

abbrev pub PSR : ℕ
PSR = 13

-- '16 TCR, 17 TIVR, 19-21 preload high, mid, low, 23-25 count high, mid, low, 26 TSR'
abbrev pub TCR : ℕ
TCR = 16

abbrev pub TIVR : ℕ
TIVR = 17

abbrev pub CPRH : ℕ
CPRH = 19

abbrev pub CNTRH : ℕ
CNTRH = 23

abbrev pub TSR : ℕ
TSR = 26

-- a number of 24 bits is in three registers
abbrev pub number_bytes : ℕ
number_bytes = 3

-- 'Pins 0-7 are PA, 8-15 PB, 16-23 PC, 24-27 H1-H4'
abbrev pub PA0 : ℕ
PA0 = 0

abbrev pub PB0 : ℕ
PB0 = 8

abbrev pub PC0 : ℕ
PC0 = 16

abbrev pub H1 : ℕ
H1 = 24

abbrev pub H2 : ℕ
H2 = 25

abbrev pub H3 : ℕ
H3 = 26

abbrev pub H4 : ℕ
H4 = 27

-- a port has eight pins
abbrev pub lines : ℕ
lines = 8
