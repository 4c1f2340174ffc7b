mod Utf16
