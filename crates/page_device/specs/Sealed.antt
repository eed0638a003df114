-- A page as it lies on the device: its payload, and then the SHA-256 of its number, in four bytes,
-- the highest first, and of the payload.
use Rattle.std.specs.Prelude.{◌≡◌, ℕ, List, ◌++◌, take, drop}
use Rattle.byteorder.specs.Endian.{big_bytes}
use Rattle.sha2.specs.Sha256.{sha256}
use Rattle.page_device.specs.declared.page.TheConstants.{PAYLOAD_BYTES}

-- the digest that page n keeps of its payload
abbrev pub page_digest : ℕ → List ℕ → List ℕ
page_digest n payload = sha256 (big_bytes 4 n ++ payload)

-- the payload of a page, sealed or not
abbrev pub payload_of : List ℕ → List ℕ
payload_of page = take PAYLOAD_BYTES page

-- page n ends in the digest of its payload
abbrev pub IsSealed : ℕ → List ℕ → Type 0
IsSealed n page = drop PAYLOAD_BYTES page ≡ page_digest n (payload_of page)
