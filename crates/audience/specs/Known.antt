-- The register of known list domains: an address at one of them is a list's.
use Rattle.std.specs.Prelude.{Bool, List, [], ◌∷◌, codes}
use Rattle.std.specs.Str.{bytes_eq}
use Rattle.address.specs.Text.{Text}
use Rattle.keep_first.specs.Keep.{some}

abbrev pub known_mailing_list_domains : List Text
known_mailing_list_domains =
    codes "vger.kernel.org"
    ∷ codes "lists.linux.dev"
    ∷ codes "lists.infradead.org"
    ∷ codes "lists.freedesktop.org"
    ∷ codes "lists.osuosl.org"
    ∷ codes "kvack.org"
    ∷ codes "lists.open-mesh.org"
    ∷ codes "lists.sourceforge.net"
    ∷ codes "lists.oss.qualcomm.com"
    ∷ codes "lists.subsurface-divelog.org"
    ∷ codes "acpica.org"
    ∷ codes "lists.linaro.org"
    ∷ codes "lists.01.org"
    ∷ codes "lists.xenproject.org"
    ∷ codes "lists.ozlabs.org"
    ∷ []

abbrev pub known_domain : Text → Bool
known_domain d = some (bytes_eq d) known_mailing_list_domains
