-- What a `FileDevice` keeps, and the pages that it shows.
use Rattle.std.specs.Prelude.{ℕ}
use Rattle.page_device.specs.declared.file.FileDevice.{FileDevice}

-- the file of a device
abbrev pub file_of : {F : Type 0} → FileDevice F → F
file_of device = device.file

-- how many pages it has
abbrev pub pages_of : {F : Type 0} → FileDevice F → ℕ
pages_of device = device.pages

-- how many transfers have failed
abbrev pub failed_of : {F : Type 0} → FileDevice F → ℕ
failed_of device = device.failed
