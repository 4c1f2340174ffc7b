mod values
