-- What the proofs stand on: the keys of a device's kind, and what its containers hold.
use Rattle.std.proofs.Common.{◌≡◌, ℕ, List, length}
use Rattle.keys.specs.Octets.{Bytes}
use Rattle.records.specs.Records.{Contents}
use Rattle.devices.specs.Questions.{Held}
use Rattle.devices.specs.declared.device.Device.{Ghosts as DeviceGhosts}
use Rattle.keys.specs.declared.key.Key.{Ghosts as KeyGhosts}

pub record Ground (K : Type 0) : Type 0 where
  pub bytes : K → List ℕ
  pub key : List ℕ → K
  pub w : ℕ
  pub any : (bs : List ℕ) → length bs ≡ w → Bytes bs → bytes (key bs) ≡ bs
  pub back : (k : K) → key (bytes k) ≡ k
  pub cs : Contents
  pub held : Held w cs

-- the ground of a device, from what its bound has
abbrev pub grounded : {K D : Type 0} (k : KeyGhosts K) → ((bs : List ℕ) → length bs ≡ k.WIDE → Bytes bs → k.bytes (k.key bs) ≡ bs) → ((x : K) → k.key (k.bytes x) ≡ x) → (devices : DeviceGhosts D K) → ((d : D) → Held k.WIDE (devices.contents d)) → D → Ground K
grounded k any back devices held d = record {
  bytes = k.bytes;
  key = k.key;
  w = k.WIDE;
  any = any;
  back = back;
  cs = devices.contents d;
  held = held d;
}
