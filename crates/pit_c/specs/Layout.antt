-- The device as bytes, in the order of include/pit.h ('Layout of the device'). A flag is 1 or 0, and any byte but 0 is read as 1;
-- preload and count are four bytes each, least significant first.
use Rattle.std.specs.Prelude.{ℕ, ◌+◌, Bool, not, List, [], ◌∷◌, ◌++◌, eqb, get_or}
use Rattle.std.specs.Int.{w32, to_le_bytes, from_le_bytes}
use mir.Val.{bool_byte}
use Rattle.port.specs.declared.Port.{Port}
use Rattle.port.specs.declared.Link.{Link}
use Rattle.parallel.specs.declared.Parallel.{Parallel}
use Rattle.gate.specs.declared.Gate.{Gate}
use Rattle.device.specs.declared.Device.{Device}

-- how many bytes a device takes
abbrev pub size : ℕ
size = 53

-- a flag: 1 or 0
abbrev pub flag_byte : Bool → ℕ
flag_byte on = bool_byte on

-- how many bytes a port and its pair take, without their outside levels
abbrev pub side_size : ℕ
side_size = 13

-- those bytes
abbrev pub side_row : Port → Link → List ℕ
side_row port pair =
    port.direction
    ∷ pair.control
    ∷ port.cells.latch
    ∷ port.cells.initial
    ∷ port.cells.first
    ∷ port.cells.second
    ∷ pair.held
    ∷ port.cells.last
    ∷ pair.strobe.wait
    ∷ pair.strobe.pulse
    ∷ flag_byte pair.strobe.asserted
    ∷ flag_byte pair.flag1
    ∷ flag_byte pair.flag2
    ∷ []

-- the bytes of a device, part by part
abbrev pub row_of : Device → List ℕ
row_of d =
    let p = d.parallel in
    let c = d.gate.c in
    let timer = d.gate.timer in
    let phase = timer.phase in
    (p.pgcr ∷ p.psrr ∷ p.pivr ∷ [])
    ++ side_row p.a p.h12
    ++ side_row p.b p.h34
    ++ (c.direction ∷ c.latch ∷ timer.tcr ∷ timer.tivr ∷ [])
    ++ to_le_bytes w32 timer.preload.0
    ++ to_le_bytes w32 timer.count.0
    ++ (phase.prescaler.0 ∷ flag_byte phase.zds ∷ flag_byte phase.square ∷ flag_byte phase.due ∷ [])
    ++ (p.a.outside ∷ p.b.outside ∷ c.outside ∷ [])
    ++ (flag_byte p.h12.level1 ∷ flag_byte p.h12.level2 ∷ flag_byte p.h34.level1 ∷ flag_byte p.h34.level2 ∷ flag_byte phase.rise ∷ [])

-- the same under a name that everything else goes by, and that is not spelled out there
unfoldable pub bytes_of : Device → List ℕ
bytes_of d = row_of d

-- byte i; past the end 0
abbrev pub byte_at : List ℕ → ℕ → ℕ
byte_at l i = get_or l i 0

-- flag i
abbrev pub flag_at : List ℕ → ℕ → Bool
flag_at l i = not (eqb (byte_at l i) 0)

-- the number of four bytes, least significant first
abbrev pub number_of : ℕ → ℕ → ℕ → ℕ → ℕ
number_of b0 b1 b2 b3 = from_le_bytes w32 (b0 ∷ b1 ∷ b2 ∷ b3 ∷ [])

-- the number of the four bytes from place i on
abbrev pub number_at : List ℕ → ℕ → ℕ
number_at l i = number_of (byte_at l i) (byte_at l (i + 1)) (byte_at l (i + 2)) (byte_at l (i + 3))

-- a port whose bytes, with its pair's among them, begin at one place, and whose lines' outside levels stand at another
abbrev pub port_at : List ℕ → ℕ → ℕ → Port
port_at l at outside = record {
  direction = byte_at l at;
  cells = record {
    latch = byte_at l (at + 2);
    initial = byte_at l (at + 3);
    first = byte_at l (at + 4);
    second = byte_at l (at + 5);
    last = byte_at l (at + 7);
  };
  outside = byte_at l outside;
}

-- its pair, whose pins' outside levels stand at a place of their own
abbrev pub link_at : List ℕ → ℕ → ℕ → Link
link_at l at levels = record {
  control = byte_at l (at + 1);
  held = byte_at l (at + 6);
  strobe = record {
    wait = byte_at l (at + 8);
    pulse = byte_at l (at + 9);
    asserted = flag_at l (at + 10);
  };
  flag1 = flag_at l (at + 11);
  flag2 = flag_at l (at + 12);
  level1 = flag_at l levels;
  level2 = flag_at l (levels + 1);
}

-- the half of ports and handshakes that bytes, and its ports and pairs, stand for
abbrev pub parallel_with : List ℕ → Port → Port → Link → Link → Parallel
parallel_with l a b h12 h34 = record {
  pgcr = byte_at l 0;
  psrr = byte_at l 1;
  pivr = byte_at l 2;
  a = a;
  b = b;
  h12 = h12;
  h34 = h34;
}

-- the half of ports and handshakes that bytes stand for
unfoldable pub parallel_of : List ℕ → Parallel
parallel_of l = parallel_with l (port_at l 3 45) (port_at l 16 46) (link_at l 3 48) (link_at l 16 50)

-- the half of timer and port C that bytes, and the two numbers among them, stand for
abbrev pub gate_with : List ℕ → ℕ → ℕ → Gate
gate_with l preload count = record {
  timer = record {
    tcr = byte_at l 31;
    tivr = byte_at l 32;
    preload = record { 0 = preload };
    count = record { 0 = count };
    phase = record {
      prescaler = record { 0 = byte_at l 41 };
      zds = flag_at l 42;
      square = flag_at l 43;
      due = flag_at l 44;
      rise = flag_at l 52;
    };
  };
  c = record {
    direction = byte_at l 29;
    latch = byte_at l 30;
    outside = byte_at l 47;
  };
}

-- where preload and count begin
abbrev pub preload_place : ℕ
preload_place = 33

abbrev pub count_place : ℕ
count_place = 37

-- the half of timer and port C that bytes stand for
unfoldable pub gate_of : List ℕ → Gate
gate_of l = gate_with l (number_at l preload_place) (number_at l count_place)

-- the device that bytes stand for
abbrev pub device_of : List ℕ → Device
device_of l = record { parallel = parallel_of l; gate = gate_of l }

-- the bytes of ports and handshakes beside the timer and port C that bytes stand for
abbrev pub bytes_beside : List ℕ → Parallel → List ℕ
bytes_beside l p = bytes_of (record { parallel = p; gate = gate_of l })
